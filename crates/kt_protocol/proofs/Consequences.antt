-- The theorem from the invariant.
-- Cited by `laws::held_is_forced`, `laws::nothing_remembered_is_undone`, `laws::permanent_checkpoints_agree`,
--   `laws::rolling_is_forced`; other crates.
use Rattle.std.proofs.Common.{◌≡◌, ◌≢◌, ◌⊎◌, ℕ, Bool, true, false, IsTrue, List, ◌∷◌, Some, inl, inr, sym, subst, ◌∙◌}
use Rattle.std.proofs.lemmas.Bool.{cases_eq}
use Rattle.kt_protocol.specs.Labels.{Label, Under, UpTo, at}
use Rattle.kt_protocol.specs.Logs.{IsIn, here, Sends, Hears, top_sent, top_heard}
use Rattle.kt_protocol.specs.Machine.{Instance, Check, Rollback, Open, Ballot, Mode, Up, Within, Down, Message, Ask, Node, State, instance_of}
use Rattle.kt_protocol.specs.Steps.{Step, sends, hears, keeps, takes, drops, ignores, refuses, grants, joins, begins, restarts, counts, agrees, declines}
use Rattle.kt_protocol.specs.Steps.{decides_rollback, decides_check, gives_up_rollback, gives_up_check, learns_yes, learns_no, releases, fails, fails_holding}
use Rattle.kt_protocol.specs.Steps.{MustJoin, change, pull, asking, consenting}
use Rattle.kt_protocol.specs.Runs.{AreNeighbours}
use Rattle.kt_protocol.specs.Laws.{IsHeld, IsRolling, IsStanding, IsSteady, MustRoll, MustHold, WhyHeld, began, forced}
use Rattle.kt_protocol.proofs.Labels.{at-both, at-else, UpTo-trans, UpTo-Under, Under-UpTo, UpTo-eq, Under-not}
use Rattle.kt_protocol.proofs.Logs.{Falls-tail, tail-in, sent-old, sent-top, heard-top, heard-attained}
use Rattle.kt_protocol.proofs.Invariant.{core, Gone, Caused, made, lost, cut_soon, Pair, Invariant}
use Rattle.kt_protocol.proofs.Cases.{some-none, none-some, some-one, up-gone, up-voting, up-down, check-rollback, pull-here, push-else}
use Rattle.kt_protocol.proofs.Cuts.{rolling-none}
use Rattle.kt_protocol.proofs.Starts.{begun-now}

-- what a permanent checkpoint has heard, the sender's has sent
pub agree : {peer : ℕ → ℕ → Bool} {s : State} → Invariant peer s → (p q by : ℕ) (l : Label) → IsIn (Hears by p l) (s.node q).perm
    → IsIn (Sends by q l) (s.node p).perm
agree {peer} {s} w p q by l h = caused (pair.caused by l log) where
  log : IsIn (Hears by p l) (s.node q).log
  log = tail-in (w.local q).tail h

  pair : Pair s.board p q (s.node p) (s.node q) ((s.node q).kept p) (s.link p q)
  pair = w.pair p q ((w.local q).from by p l log)

  low : UpTo l (top_heard (s.node q).perm p)
  low = heard-top (s.node q).perm (Falls-tail (w.local q).tail (w.local q).falls) h

  caused : Caused s.board p q (core (s.node p)) (s.node q).mode (s.node q).perm by l → IsIn (Sends by q l) (s.node p).perm
  caused (made i) = sent-old (w.local p).tail (w.local p).falls i (UpTo-trans low pair.agree)
  caused (lost u) = absurd (Under-not u.above (UpTo-trans low pair.agree))
  caused (cut_soon c) = absurd (Under-not c.above low)

standing-gone : {X : Type 0} (m : Mode) → IsStanding m → Gone m → X
standing-gone Up s g = absurd g
standing-gone (Within (Check k) b) s g = absurd g
standing-gone (Within (Rollback k) b) s g = absurd s
standing-gone Down s g = absurd s

standing-rolling : {X : Type 0} (m : Mode) (k : ℕ) → IsStanding m → instance_of m ≡ Some (Rollback k) → X
standing-rolling Up k s e = none-some e
standing-rolling (Within (Check j) b) k s e = check-rollback (some-one e)
standing-rolling (Within (Rollback j) b) k s e = absurd s
standing-rolling Down k s e = absurd s

-- in a steady state each act in a log that heard an act heard one that its node remembers
pub remembered : {peer : ℕ → ℕ → Bool} {s : State} → Invariant peer s → IsSteady s → (p q by : ℕ) (l : Label) → IsIn (Hears by p l) (s.node q).log
    → IsIn (Sends by q l) (s.node p).log
remembered {peer} {s} w steady p q by l h = caused ((w.pair p q ((w.local q).from by p l h)).caused by l h) where
  caused : Caused s.board p q (core (s.node p)) (s.node q).mode (s.node q).perm by l → IsIn (Sends by q l) (s.node p).log
  caused (made i) = i
  caused (lost u) = standing-gone (s.node p).mode (steady p) u.gone
  caused (cut_soon c) = standing-rolling (s.node q).mode c.number (steady q) c.rolls

-- a node that is Up and another after a step: the step changed it
changed : (P : Mode → Type 0) → (P Up → ⊥) → (o x : ℕ) (new : Node) (f : ℕ → Node) → (f o).mode ≡ Up → P (at x new f o).mode → (o ≡ x) × P new.mode
changed P not_up o x new f up h = at-both x new f o (λ n. P n.mode → (o ≡ x) × P new.mode) (λ e g. (e, g))
    (λ ne g. absurd (not_up (subst P up g))) h

still : (P : Mode → Type 0) {X : Type 0} → (P Up → ⊥) → (o : ℕ) (f : ℕ → Node) → (f o).mode ≡ Up → P (f o).mode → X
still P not_up o f up h = absurd (not_up (subst P up h))

-- ways in which a step makes a node that is Up what it was not
data Ways (P : Mode → Type 0) (peer : ℕ → ℕ → Bool) (s t : State) (o : ℕ) : Type 0 where
  by_ask : (x : ℕ) (i : Instance) (l : Label) (c : ℕ) (rest : List Message) (b : Ballot) → IsTrue (peer x o) → s.link x o ≡ Ask i l c ∷ rest
      → t.link x o ≡ rest → s.board.verdict i ≡ Open → MustJoin i (s.node o) x l → P (Within i b) → Ways P peer s t o
  by_itself : (k : ℕ) (b : Ballot) → s.board.begun (Check k) ≡ false → t.board.begun (Check k) ≡ true → P (Within (Check k) b) → Ways P peer s t o

same_mode : (P : Mode → Type 0) {X : Type 0} → (P Up → ⊥) → (s : State) (o x : ℕ) → (s.node o).mode ≡ Up → o ≡ x → P (s.node x).mode → X
same_mode P not_up s o x up e g = absurd (not_up (subst P up (subst (λ y. P (s.node y).mode) (sym e) g)))

busy : {X : Type 0} (s : State) (o x : ℕ) (i : Instance) (b : Ballot) → (s.node o).mode ≡ Up → (s.node x).mode ≡ Within i b → o ≡ x → X
busy s o x i b up e f = up-voting up (subst (λ y. (s.node y).mode ≡ Within i b) (sym f) e)

ways : (P : Mode → Type 0) → (P Up → ⊥) → (P Down → ⊥) → (peer : ℕ → ℕ → Bool) → AreNeighbours peer → (s : State) (o : ℕ) → (s.node o).mode ≡ Up → (t : State)
    → Step peer s t → P (t.node o).mode → Ways P peer s t o
ways P nu nd peer near s o up t (sends x y by u a) h = let g = changed P nu o x _ s.node up h in same_mode P nu s o x up g.0 g.1
ways P nu nd peer near s o up t (hears x y m rest u a bare front) h = let g = changed P nu o x _ s.node up h in same_mode P nu s o x up g.0 g.1
ways P nu nd peer near s o up t (keeps x y m rest u front) h = let g = changed P nu o x _ s.node up h in same_mode P nu s o x up g.0 g.1
ways P nu nd peer near s o up t (takes x y m ks u a front) h = let g = changed P nu o x _ s.node up h in same_mode P nu s o x up g.0 g.1
ways P nu nd peer near s o up t (drops x y m rest u front) h = still P nu o s.node up h
ways P nu nd peer near s o up t (ignores x y i l c rest u front) h = let g = changed P nu o x _ s.node up h in same_mode P nu s o x up g.0 g.1
ways P nu nd peer near s o up t (refuses x y i l c rest u front) h = let g = changed P nu o x _ s.node up h in same_mode P nu s o x up g.0 g.1
ways P nu nd peer near s o up t (grants x y i l c rest u front opened may) h = let g = changed P nu o x _ s.node up h in same_mode P nu s o x up g.0 g.1
ways P nu nd peer near s o up t (joins x y i l c rest cohort u front a opened must asked) h =
    let g = changed P nu o x _ s.node up h in
    subst (λ z. Ways P peer s t z) (sym g.0) (by_ask y i l c rest _ u front
    (push-else x (asking i cohort (s.node x)) (pull y x rest s) y x (near.two y x u) ∙ pull-here y x rest s) opened must g.1)
ways P nu nd peer near s o up t (begins x k cohort a unbegun asked) h =
    let g = changed P nu o x _ s.node up h in by_itself k _ unbegun (begun-now (Check k) s) g.1
ways P nu nd peer near s o up t (restarts x k cohort down none cut unbegun asked) h =
    let g = changed P nu o x _ s.node up h in up-down up (subst (λ y. (s.node y).mode ≡ Down) (sym g.0) down)
ways P nu nd peer near s o up t (counts x q i b y u e a v) h = let g = changed P nu o x _ s.node up h in busy s o x i b up e g.0
ways P nu nd peer near s o up t (agrees x i b k e par unvoted agreed) h = let g = changed P nu o x _ s.node up h in busy s o x i b up e g.0
ways P nu nd peer near s o up t (declines x i b k e par unvoted) h = let g = changed P nu o x _ s.node up h in busy s o x i b up e g.0
ways P nu nd peer near s o up t (decides_rollback x k b e par opened agreed) h = pick (cases_eq o x) where
  pick : (o ≡ x) ⊎ (o ≢ x) → Ways P peer s t o
  pick (inl f) = busy s o x (Rollback k) b up e f
  pick (inr ne) = still P nu o s.node up (subst (λ (n : Node). P n.mode) (at-else x _ s.node o ne)
      (subst (λ (n : Node). P n.mode) (at-else x _ (change x (consenting (Rollback k) b) s).node o ne) h))
ways P nu nd peer near s o up t (decides_check x k b e par opened agreed) h = let g = changed P nu o x _ s.node up h in busy s o x (Check k) b up e g.0
ways P nu nd peer near s o up t (gives_up_rollback k begun opened) h = still P nu o s.node up h
ways P nu nd peer near s o up t (gives_up_check k begun opened) h = still P nu o s.node up h
ways P nu nd peer near s o up t (learns_yes x k b e decided) h = let g = changed P nu o x _ s.node up h in busy s o x (Rollback k) b up e g.0
ways P nu nd peer near s o up t (learns_no x k b p e par decided) h = let g = changed P nu o x _ s.node up h in busy s o x (Rollback k) b up e g.0
ways P nu nd peer near s o up t (releases x k b e none) h = let g = changed P nu o x _ s.node up h in busy s o x (Check k) b up e g.0
ways P nu nd peer near s o up t (fails x none) h = let g = changed P nu o x _ s.node up h in absurd (nd g.1)
ways P nu nd peer near s o up t (fails_holding x k held) h = let g = changed P nu o x _ s.node up h in absurd (nd g.1)

-- an open ask of a rollback waits for a node that heard something above its label
must_roll : {peer : ℕ → ℕ → Bool} {s t : State} → Invariant peer s
    → (o x k : ℕ) (l : Label) (c : ℕ) (rest : List Message) → IsTrue (peer x o)
    → s.link x o ≡ Ask (Rollback k) l c ∷ rest → t.link x o ≡ rest → s.board.verdict (Rollback k) ≡ Open
    → Under l (top_heard (s.node o).log x) → MustRoll s t o
must_roll {peer} {s} {t} w o x k l c rest near front taken opened u =
    let h = heard-attained x (w.local o).tail above in
    record {
      asker = x;
      number = k;
      label = l;
      life = c;
      rest = rest;
      ask = front;
      taken = taken;
      by = h.0;
      under = top_heard (s.node o).log x;
      heard = h.1;
      lacks = λ i. Under-not (UpTo-Under (UpTo-eq (sym label)) u) (sent-top (s.node x).perm (Falls-tail (w.local x).tail (w.local x).falls) i);
    } where
      label : l ≡ top_sent (s.node x).perm o
      label = (((w.pair x o near).asks (Rollback k) l c (subst (λ m. IsIn (Ask (Rollback k) l c) m) (sym front) here)).meant opened).2

      -- the permanent checkpoint heard no more than the asker's has sent
      above : Under (top_heard (s.node o).perm x) (top_heard (s.node o).log x)
      above = UpTo-Under (UpTo-trans (w.pair x o near).agree (UpTo-eq (sym label))) u

pub forced_to_roll : {peer : ℕ → ℕ → Bool} → AreNeighbours peer → {s t : State} → Invariant peer s → Step peer s t → (o : ℕ)
    → (s.node o).mode ≡ Up → IsRolling (t.node o).mode
    → MustRoll s t o
forced_to_roll {peer} near {s} {t} w x o up h = go (ways IsRolling (λ g. g) (λ g. g) peer near s o up t x h) where
  go : Ways IsRolling peer s t o → MustRoll s t o
  go (by_ask y (Rollback k) l c rest b u front taken opened must r) = must_roll w o y k l c rest u front taken opened must
  go (by_ask y (Check k) l c rest b u front taken opened must r) = absurd r
  go (by_itself k b unbegun begun r) = absurd r

-- an open ask of a check waits for a node whose permanent checkpoint has not sent what the asker heard
must_hold : {peer : ℕ → ℕ → Bool} → AreNeighbours peer → {s t : State} → Invariant peer s
    → (o x k : ℕ) (l : Label) (c : ℕ) (rest : List Message) → IsTrue (peer x o)
    → (s.node o).mode ≡ Up
    → s.link x o ≡ Ask (Check k) l c ∷ rest → t.link x o ≡ rest → s.board.verdict (Check k) ≡ Open
    → Under (top_sent (s.node o).perm x) l → MustHold s t o
must_hold {peer} near {s} {t} w o x k l c rest link up front taken opened u =
    let h = heard-attained o (w.local x).tail (UpTo-Under (w.pair o x (near.both x o link)).agree above) in
    record {
      asker = x;
      number = k;
      label = l;
      life = c;
      rest = rest;
      ask = front;
      taken = taken;
      by = h.0;
      under = top_heard (s.node x).log o;
      heard = h.1;
      sent = caused ((w.pair o x (near.both x o link)).caused h.0 (top_heard (s.node x).log o) h.1);
      lacks = λ i. Under-not above (sent-top (s.node o).perm (Falls-tail (w.local o).tail (w.local o).falls) i);
    } where
      meant : ((s.node x).tent ≡ Some k) × (l ≡ top_heard (s.node x).log o)
      meant = ((w.pair x o link).asks (Check k) l c (subst (λ m. IsIn (Ask (Check k) l c) m) (sym front) here)).meant opened

      above : Under (top_sent (s.node o).perm x) (top_heard (s.node x).log o)
      above = Under-UpTo u (UpTo-eq meant.1)

      caused : {y : ℕ} {m : Label} → Caused s.board o x (core (s.node o)) (s.node x).mode (s.node x).perm y m → IsIn (Sends y x m) (s.node o).log
      caused (made i) = i
      caused (lost g) = up-gone up g.gone
      caused (cut_soon g) = some-none (sym meant.0 ∙ rolling-none (s.node x).mode (s.node x).tent (w.local x).way g.rolls)

pub why_held : {peer : ℕ → ℕ → Bool} → AreNeighbours peer → {s t : State} → Invariant peer s → Step peer s t → (o : ℕ) → (s.node o).mode ≡ Up
    → IsHeld (t.node o).mode → WhyHeld s t o
why_held {peer} near {s} {t} w x o up h = go (ways IsHeld (λ g. g) (λ g. g) peer near s o up t x h) where
  go : Ways IsHeld peer s t o → WhyHeld s t o
  go (by_ask y (Check k) l c rest b u front taken opened must r) = forced (must_hold near w o y k l c rest u up front taken opened must)
  go (by_ask y (Rollback k) l c rest b u front taken opened must r) = absurd r
  go (by_itself k b unbegun begun r) = began k unbegun begun
