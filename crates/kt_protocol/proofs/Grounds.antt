-- What a node has of the acts before it was resumed stands at the ground of its log and of its permanent checkpoint, and
-- of no other's.
-- Cited by other crates.
use Rattle.std.proofs.Common.{◌≡◌, ◌≢◌, ◌⊎◌, ℕ, Bool, List, [], ◌∷◌, Option, Some, None, inl, inr, sym, ap, subst, if◌then◌else◌, eqb}
use Rattle.kt_protocol.specs.Labels.{Label, at}
use Rattle.kt_protocol.specs.Logs.{IsIn, here, there, Act, Sends, Hears, Resumes, IsTalk}
use Rattle.kt_protocol.specs.Machine.{Instance, Check, AppMessage, Node, State}
use Rattle.kt_protocol.specs.Steps.{Step, sends, hears, keeps, takes, drops, ignores, refuses, grants, joins, begins, restarts, counts, agrees, declines}
use Rattle.kt_protocol.specs.Steps.{decides_rollback, decides_check, gives_up_rollback, gives_up_check, learns_yes, learns_no, releases, fails, fails_holding}
use Rattle.kt_protocol.specs.Steps.{promoted, consenting, change}
use Rattle.kt_protocol.specs.Runs.{AreNeighbours, IsBeginning, IsNew, IsResumed, IsFirst, new, resumed, Run, nothing_done, one_more}
use Rattle.kt_protocol.proofs.Labels.{at-both}
use Rattle.kt_protocol.proofs.Logs.{tail-in}
use Rattle.kt_protocol.proofs.Streams.{in-cons}
use Rattle.kt_protocol.proofs.Invariant.{Invariant}
use Rattle.kt_protocol.proofs.Main.{stays_through}

-- what is no message in these acts is the ground of the node o
abbrev pub OnGround : ℕ → ℕ → List Act → Type 0
OnGround first o acts = (x g : ℕ) (sent heard : ℕ → Label) → IsIn (Resumes x g sent heard) acts → (x ≡ o) × (g ≡ first)

-- the acts have the ground of the node o
pub record HasGround (first o : ℕ) (acts : List Act) : Type 0 where
  pub sent : ℕ → Label
  pub heard : ℕ → Label
  pub among : IsIn (Resumes o first sent heard) acts

pub record IsGrounded (first o : ℕ) (n : Node) : Type 0 where
  pub log : OnGround first o n.log
  pub perm : OnGround first o n.perm

on-talk : {first o : ℕ} {a : Act} {acts : List Act} → IsTalk a → OnGround first o acts → OnGround first o (a ∷ acts)
on-talk {a = Sends _ _ _} k on x g sent heard (there i) = on x g sent heard i
on-talk {a = Hears _ _ _} k on x g sent heard (there i) = on x g sent heard i
on-talk {a = Resumes _ _ _ _} k on x g sent heard i = absurd k

-- a node more, in a function of nodes
at-grounded : {first : ℕ} (o : ℕ) (next : Node) (f : ℕ → Node) → IsGrounded first o next → ((x : ℕ) → IsGrounded first x (f x))
    → (x : ℕ) → IsGrounded first x (at o next f x)
at-grounded {first} o next f is all x = at-both o next f x (λ n. IsGrounded first x n) (λ e. subst (λ y. IsGrounded first y next) (sym e) is) (λ ne. all x)

promoted-on : {first o : ℕ} (k : ℕ) (tent : Option ℕ) (n : Node) → IsGrounded first o n → OnGround first o (promoted k tent n)
promoted-on k None n is = is.perm
promoted-on {first} {o} k (Some j) n is = by (eqb j k) where
  by : (b : Bool) → OnGround first o (if b then n.log else n.perm)
  by Rattle.std.proofs.Common.true = is.log
  by Rattle.std.proofs.Common.false = is.perm

-- each step
step-grounded : {peer : ℕ → ℕ → Bool} {first : ℕ} (s t : State) → ((x : ℕ) → IsGrounded first x (s.node x)) → Step peer s t
    → (x : ℕ) → IsGrounded first x (t.node x)
step-grounded s t all (sends o y by u up) = at-grounded o _ s.node (record { log = on-talk tt (all o).log; perm = (all o).perm }) all
step-grounded s t all (hears o x m rest u up bare front) = at-grounded o _ s.node (record { log = on-talk tt (all o).log; perm = (all o).perm }) all
step-grounded s t all (keeps o x m rest u front) = at-grounded o _ s.node (record { log = (all o).log; perm = (all o).perm }) all
step-grounded s t all (takes o x m ks u up front) = at-grounded o _ s.node (record { log = on-talk tt (all o).log; perm = (all o).perm }) all
step-grounded s t all (drops o x m rest u front) = all
step-grounded s t all (ignores o x i l c rest u front) = at-grounded o _ s.node (record { log = (all o).log; perm = (all o).perm }) all
step-grounded s t all (refuses o x i l c rest u front) = at-grounded o _ s.node (record { log = (all o).log; perm = (all o).perm }) all
step-grounded s t all (grants o x i l c rest u front opened may) = at-grounded o _ s.node (record { log = (all o).log; perm = (all o).perm }) all
step-grounded s t all (joins o x i l c rest cohort u front up opened must asked) =
    at-grounded o _ s.node (record { log = (all o).log; perm = (all o).perm }) all
step-grounded s t all (begins o k cohort up unbegun asked) = at-grounded o _ s.node (record { log = (all o).log; perm = (all o).perm }) all
step-grounded s t all (restarts o k cohort down none cut unbegun asked) =
    at-grounded o _ s.node (record { log = (all o).perm; perm = (all o).perm }) all
step-grounded s t all (counts o q i b y u e a v) = at-grounded o _ s.node (record { log = (all o).log; perm = (all o).perm }) all
step-grounded s t all (agrees o i b k e par unvoted agreed) = at-grounded o _ s.node (record { log = (all o).log; perm = (all o).perm }) all
step-grounded s t all (declines o i b k e par unvoted) = at-grounded o _ s.node (record { log = (all o).log; perm = (all o).perm }) all
step-grounded {first = first} s t all (decides_rollback o k b e par opened agreed) =
    let mid = at-grounded o (consenting (Rattle.kt_protocol.specs.Machine.Rollback k) b (s.node o)) s.node (record { log = (all o).log; perm = (all o).perm })
    all in
    at-grounded o _ (change o (consenting (Rattle.kt_protocol.specs.Machine.Rollback k) b) s).node (record { log = (mid o).log; perm = (mid o).perm }) mid
step-grounded {first = first} s t all (decides_check o k b e par opened agreed) = λ x.
    let mid = at-grounded o (consenting (Check k) b (s.node o)) s.node (record { log = (all o).log; perm = (all o).perm }) all in
    record { log = (mid x).log; perm = promoted-on k _ (at o (consenting (Check k) b (s.node o)) s.node x) (mid x) }
step-grounded s t all (gives_up_rollback k begun opened) = all
step-grounded s t all (gives_up_check k begun opened) = λ x. record { log = (all x).log; perm = (all x).perm }
step-grounded s t all (learns_yes o k b e decided) = at-grounded o _ s.node (record { log = (all o).perm; perm = (all o).perm }) all
step-grounded s t all (learns_no o k b p e par decided) = at-grounded o _ s.node (record { log = (all o).log; perm = (all o).perm }) all
step-grounded s t all (releases o k b e none) = at-grounded o _ s.node (record { log = (all o).log; perm = (all o).perm }) all
step-grounded s t all (fails o none) = at-grounded o _ s.node (record { log = (all o).perm; perm = (all o).perm }) all
step-grounded s t all (fails_holding o k held) = at-grounded o _ s.node (record { log = (all o).log; perm = (all o).perm }) all

first-grounded : (first o : ℕ) (n : Node) → IsFirst first o n → IsGrounded first o n
first-grounded first o n (new w) = record { log = none n.log w.log; perm = none n.perm w.perm } where
  none : (acts : List Act) → acts ≡ [] → OnGround first o acts
  none acts e x g sent heard i = absurd (empty (subst (λ l. IsIn (Resumes x g sent heard) l) e i)) where
    empty : IsIn (Resumes x g sent heard) [] → ⊥
    empty i = elim i [ ]
first-grounded first o n (resumed w) = record { log = one n.log w.log; perm = one n.perm w.perm } where
  one : (acts : List Act) → acts ≡ Resumes o first w.sent w.heard ∷ [] → OnGround first o acts
  one acts e x g sent heard i = only (in-cons (subst (λ l. IsIn (Resumes x g sent heard) l) e i)) where
    node_of : Act → ℕ
    node_of (Resumes y h _ _) = y
    node_of a = 0

    first_of : Act → ℕ
    first_of (Resumes y h _ _) = h
    first_of a = 0

    only : (Resumes x g sent heard ≡ Resumes o first w.sent w.heard) ⊎ IsIn (Resumes x g sent heard) [] → (x ≡ o) × (g ≡ first)
    only (inl same) = (ap node_of same, ap first_of same)
    only (inr i) = elim i [ ]

pub grounded-through : {peer : ℕ → ℕ → Bool} {first : ℕ} {s t : State} → ((x : ℕ) → IsGrounded first x (s.node x)) → Run peer s t
    → (x : ℕ) → IsGrounded first x (t.node x)
grounded-through all nothing_done = all
grounded-through all (one_more {t} {u} r x) = step-grounded t u (grounded-through all r) x

pub run-grounded : {peer : ℕ → ℕ → Bool} {s t : State} → (w : IsBeginning peer s) → Run peer s t → (x : ℕ) → IsGrounded w.first x (t.node x)
run-grounded {s = s} w r = grounded-through (λ x. first-grounded w.first x (s.node x) (w.nodes x)) r

-- ---- a permanent checkpoint keeps its ground

promoted-has : {first : ℕ} (x k : ℕ) (tent : Option ℕ) (n : Node)
    → ((a : Act) → IsIn a n.perm → IsIn a n.log) → HasGround first x n.perm → HasGround first x (promoted k tent n)
promoted-has x k None n in_log has = has
promoted-has {first = first} x k (Some j) n in_log has = by (eqb j k) where
  by : (b : Bool) → HasGround first x (if b then n.log else n.perm)
  by Rattle.std.proofs.Common.true = record { sent = has.sent; heard = has.heard; among = in_log _ has.among }
  by Rattle.std.proofs.Common.false = has

at-has : {first y : ℕ} (o : ℕ) (next : Node) (f : ℕ → Node) → (HasGround first o (f o).perm → HasGround first o next.perm)
    → HasGround first y (f y).perm → HasGround first y (at o next f y).perm
at-has {first} {y} o next f to has = at-both o next f y (λ n. HasGround first y n.perm)
    (λ e. subst (λ z. HasGround first z next.perm) (sym e) (to (subst (λ z. HasGround first z (f z).perm) e has))) (λ ne. has)

step-has : {peer : ℕ → ℕ → Bool} {first : ℕ} (s t : State) → Invariant peer s → Step peer s t → (y : ℕ) → HasGround first y (s.node y).perm
    → HasGround first y (t.node y).perm
step-has s t w (sends o y by u up) z has = at-has o _ s.node (λ h. h) has
step-has s t w (hears o x m rest u up bare front) z has = at-has o _ s.node (λ h. h) has
step-has s t w (keeps o x m rest u front) z has = at-has o _ s.node (λ h. h) has
step-has s t w (takes o x m ks u up front) z has = at-has o _ s.node (λ h. h) has
step-has s t w (drops o x m rest u front) z has = has
step-has s t w (ignores o x i l c rest u front) z has = at-has o _ s.node (λ h. h) has
step-has s t w (refuses o x i l c rest u front) z has = at-has o _ s.node (λ h. h) has
step-has s t w (grants o x i l c rest u front opened may) z has = at-has o _ s.node (λ h. h) has
step-has s t w (joins o x i l c rest cohort u front up opened must asked) z has = at-has o _ s.node (λ h. h) has
step-has s t w (begins o k cohort up unbegun asked) z has = at-has o _ s.node (λ h. h) has
step-has s t w (restarts o k cohort down none cut unbegun asked) z has = at-has o _ s.node (λ h. h) has
step-has s t w (counts o q i b y u e a v) z has = at-has o _ s.node (λ h. h) has
step-has s t w (agrees o i b k e par unvoted agreed) z has = at-has o _ s.node (λ h. h) has
step-has s t w (declines o i b k e par unvoted) z has = at-has o _ s.node (λ h. h) has
step-has s t w (decides_rollback o k b e par opened agreed) z has =
    at-has o _ (change o (consenting (Rattle.kt_protocol.specs.Machine.Rollback k) b) s).node (λ h. h) (at-has o _ s.node (λ h. h) has)
step-has s t w (decides_check o k b e par opened agreed) z has =
    let f = at o (consenting (Check k) b (s.node o)) s.node in
    promoted-has z k _ (f z)
    (at-both o (consenting (Check k) b (s.node o)) s.node z (λ (n : Node). (a : Act) → IsIn a n.perm → IsIn a n.log)
    (λ e a i. tail-in (w.local o).tail i) (λ ne a i. tail-in (w.local z).tail i))
    (at-has o _ s.node (λ h. h) has)
step-has s t w (gives_up_rollback k begun opened) z has = has
step-has s t w (gives_up_check k begun opened) z has = has
step-has s t w (learns_yes o k b e decided) z has = at-has o _ s.node (λ h. h) has
step-has s t w (learns_no o k b p e par decided) z has = at-has o _ s.node (λ h. h) has
step-has s t w (releases o k b e none) z has = at-has o _ s.node (λ h. h) has
step-has s t w (fails o none) z has = at-has o _ s.node (λ h. h) has
step-has s t w (fails_holding o k held) z has = at-has o _ s.node (λ h. h) has

-- a ground that a permanent checkpoint has stays in it
pub run-has : {peer : ℕ → ℕ → Bool} → AreNeighbours peer → {s t : State} → Invariant peer s → (first y : ℕ) → HasGround first y (s.node y).perm
    → Run peer s t → HasGround first y (t.node y).perm
run-has near w first y has nothing_done = has
run-has {peer = peer} near w first y has (one_more {t} {u} r x) = step-has t u (stays_through peer near w r) x y (run-has near w first y has r)
