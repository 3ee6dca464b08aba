-- Constructors told apart, links changed, and the whole from what a step changes.
-- Cited by Answers, Casts, Checks, Consequences, Cuts, Examples, Joins, Keeps, Main, Rises, Rows, Starts, Talks,
--   Trees, Verdicts, Votes; other crates.
use Rattle.std.proofs.Common.{◌≡◌, ◌≢◌, ◌⊎◌, ℕ, Bool, true, false, IsTrue, List, ◌++◌, Option, Some, None, inl, inr, refl, sym, ap, subst, ◌∙◌}
use Rattle.std.proofs.lemmas.Bool.{cases_eq, eq-eqb, ne_eqb}
use Rattle.kt_protocol.specs.Labels.{at}
use Rattle.kt_protocol.specs.Machine.{Instance, Check, Rollback, Verdict, Open, Yes, No, Ballot, Mode, Up, Within, Down, Message, Node, State, instance_of}
use Rattle.kt_protocol.specs.Steps.{pull, push}
use Rattle.kt_protocol.specs.Runs.{AreNeighbours}
use Rattle.kt_protocol.proofs.Invariant.{Gone, Pair, Local, Invariant}
use Rattle.kt_protocol.proofs.Frames.{lift, Later-refl, Trees-idle}

abbrev or_nothing : {A : Type 0} → A → Option A → A
or_nothing a None = a
or_nothing a (Some b) = b

abbrev IsSomething : {A : Type 0} → Option A → Type 0
IsSomething None = ⊥
IsSomething (Some b) = Unit {0}

pub some-one : {A : Type 0} {a b : A} → Some a ≡ Some b → a ≡ b
some-one {a = a} e = ap (or_nothing a) e

pub some-none : {A : Type 0} {a : A} {X : Type 0} → Some a ≡ None → X
some-none e = absurd (subst IsSomething e tt)

pub none-some : {A : Type 0} {a : A} {X : Type 0} → None ≡ Some a → X
none-some e = some-none (sym e)

abbrev IsVoting : Mode → Type 0
IsVoting Up = ⊥
IsVoting (Within i b) = Unit {0}
IsVoting Down = ⊥

pub up-voting : {m : Mode} {i : Instance} {b : Ballot} {X : Type 0} → m ≡ Up → m ≡ Within i b → X
up-voting e f = absurd (subst IsVoting (sym f ∙ e) tt)

pub down-voting : {m : Mode} {i : Instance} {b : Ballot} {X : Type 0} → m ≡ Down → m ≡ Within i b → X
down-voting e f = absurd (subst IsVoting (sym f ∙ e) tt)

abbrev IsDown : Mode → Type 0
IsDown Down = Unit {0}
IsDown _ = ⊥

pub up-down : {m : Mode} {X : Type 0} → m ≡ Up → m ≡ Down → X
up-down e f = absurd (subst IsDown (sym f ∙ e) tt)

abbrev ballot_or : Ballot → Mode → Ballot
ballot_or c Up = c
ballot_or c (Within i b) = b
ballot_or c Down = c

pub voting-instance : {i j : Instance} {b c : Ballot} → Within i b ≡ Within j c → i ≡ j
voting-instance e = some-one (ap instance_of e)

pub voting-ballot : {i j : Instance} {b c : Ballot} → Within i b ≡ Within j c → b ≡ c
voting-ballot {b = b} e = ap (ballot_or b) e

abbrev number_of : Instance → ℕ
number_of (Check k) = k
number_of (Rollback k) = k

abbrev IsCheck : Instance → Type 0
IsCheck (Check k) = Unit {0}
IsCheck (Rollback k) = ⊥

pub check-one : {k m : ℕ} → Check k ≡ Check m → k ≡ m
check-one e = ap number_of e

pub rollback-one : {k m : ℕ} → Rollback k ≡ Rollback m → k ≡ m
rollback-one e = ap number_of e

pub check-rollback : {k m : ℕ} {X : Type 0} → Check k ≡ Rollback m → X
check-rollback e = absurd (subst IsCheck e tt)

abbrev IsOpen : Verdict → Type 0
IsOpen Open = Unit {0}
IsOpen _ = ⊥

abbrev IsYes : Verdict → Type 0
IsYes Yes = Unit {0}
IsYes _ = ⊥

pub open-yes : {v : Verdict} {X : Type 0} → v ≡ Open → v ≡ Yes → X
open-yes e f = absurd (subst IsOpen (sym e ∙ f) tt)

pub open-no : {v : Verdict} {X : Type 0} → v ≡ Open → v ≡ No → X
open-no e f = absurd (subst IsOpen (sym e ∙ f) tt)

pub yes-no : {v : Verdict} {X : Type 0} → v ≡ Yes → v ≡ No → X
yes-no e f = absurd (subst IsYes (sym e ∙ f) tt)

abbrev IsOne : Bool → Type 0
IsOne true = Unit {0}
IsOne false = ⊥

pub true-false : {b : Bool} {X : Type 0} → b ≡ true → b ≡ false → X
true-false e f = absurd (subst IsOne (sym e ∙ f) tt)

-- who is Up is not gone
pub up-gone : {m : Mode} {X : Type 0} → m ≡ Up → Gone m → X
up-gone e g = absurd (subst Gone e g)

-- links after a message is taken off
pub pull-else : (x o : ℕ) (rest : List Message) (s : State) (p q : ℕ) → q ≢ o → (pull x o rest s).link p q ≡ s.link p q
pull-else x o rest s p q ne = rw (ne_eqb q o ne) refl

pub pull-here : (x o : ℕ) (rest : List Message) (s : State) → (pull x o rest s).link x o ≡ rest
pull-here x o rest s = rw (eq-eqb o o refl, eq-eqb x x refl) refl

pub pull-other : (x o : ℕ) (rest : List Message) (s : State) (p : ℕ) → p ≢ x → (pull x o rest s).link p o ≡ s.link p o
pull-other x o rest s p ne = rw (eq-eqb o o refl, ne_eqb p x ne) refl

pub push-else : (o : ℕ) (send : ℕ → List Message) (s : State) (p q : ℕ) → p ≢ o → (push o send s).link p q ≡ s.link p q
push-else o send s p q ne = rw (ne_eqb p o ne) refl

pub push-here : (o : ℕ) (send : ℕ → List Message) (s : State) (q : ℕ) → (push o send s).link o q ≡ s.link o q ++ send q
push-here o send s q = rw (eq-eqb o o refl) refl

-- a step of o that takes a message from x
pub lift_pull : (peer : ℕ → ℕ → Bool) → AreNeighbours peer → (s : State) (o x : ℕ) (rest : List Message) (new : Node)
    → new.joined ≡ (s.node o).joined → new.said ≡ (s.node o).said
    → IsTrue (peer x o)
    → ((p : ℕ) → p ≢ x → new.kept p ≡ (s.node o).kept p)
    → Local peer s.board o new
    → ((q : ℕ) → IsTrue (peer o q) → o ≢ q → Pair s.board o q new (s.node q) ((s.node q).kept o) (s.link o q))
    → Pair s.board x o (s.node x) new (new.kept x) rest
    → ((p : ℕ) → IsTrue (peer p o) → p ≢ o → p ≢ x → Pair s.board p o (s.node p) new ((s.node o).kept p) (s.link p o))
    → Invariant peer s → Invariant peer record s { node = at o new s.node; link = (pull x o rest s).link }
lift_pull peer near s o x rest new same_joined same_said t kept mine out hit into w =
    lift peer near s o new (pull x o rest s).link s.board (Later-refl s.board) (λ k e. e) w.fresh
    (λ p q ne nf. pull-else x o rest s p q nf) mine
    (λ q u ne. subst (λ m. Pair s.board o q new (s.node q) ((s.node q).kept o) m) (sym (pull-else x o rest s o q (λ e. ne (sym e))))
    (out q u ne))
    (λ p u ne. pick p u ne (cases_eq p x))
    (Trees-idle o new s.node same_joined same_said w.trees) w
  where
    pick : (p : ℕ) → IsTrue (peer p o) → p ≢ o → (p ≡ x) ⊎ (p ≢ x) → Pair s.board p o (s.node p) new (new.kept p) ((pull x o rest s).link p o)
    pick p u ne (inl e) = subst (λ y. Pair s.board y o (s.node y) new (new.kept y) ((pull x o rest s).link y o)) (sym e)
        (subst (λ m. Pair s.board x o (s.node x) new (new.kept x) m) (sym (pull-here x o rest s)) hit)
    pick p u ne (inr nf) = subst (λ m. Pair s.board p o (s.node p) new (new.kept p) m) (sym (pull-other x o rest s p nf))
        (subst (λ ks. Pair s.board p o (s.node p) new ks (s.link p o)) (sym (kept p nf)) (into p u ne nf))

-- a step of o that changes no link and nothing of who joined and who said yes
pub lift_own : (peer : ℕ → ℕ → Bool) → AreNeighbours peer → (s : State) (o : ℕ) (new : Node)
    → new.joined ≡ (s.node o).joined → new.said ≡ (s.node o).said
    → Local peer s.board o new
    → ((q : ℕ) → IsTrue (peer o q) → o ≢ q → Pair s.board o q new (s.node q) ((s.node q).kept o) (s.link o q))
    → ((p : ℕ) → IsTrue (peer p o) → p ≢ o → Pair s.board p o (s.node p) new (new.kept p) (s.link p o))
    → Invariant peer s → Invariant peer record s { node = at o new s.node }
lift_own peer near s o new same_joined same_said mine out into w =
    lift peer near s o new s.link s.board (Later-refl s.board) (λ k e. e) w.fresh (λ p q ne nf. refl) mine out into
    (Trees-idle o new s.node same_joined same_said w.trees) w
