-- Which messages the machine knows of: those that its acts sent and heard, those under way and those kept. A step adds
-- none unless it sends.
-- Cited by Answering, Closing, Forcing, JoinsCheck, Letters, Voting.
use Rattle.std.proofs.Common.{◌≡◌, ◌≢◌, ◌⊎◌, ℕ, Bool, true, false, List, [], ◌∷◌, ◌++◌, inl, inr, sym, subst}
use Rattle.std.specs.Prelude.{if◌then◌else◌}
use Rattle.std.proofs.lemmas.Bool.{cases_eq, eq-eqb, ne_eqb}
use Rattle.kt_protocol.specs.Labels.{Label, at, up_to}
use Rattle.kt_protocol.specs.Logs.{IsIn, here, there, Act, Sends, Hears}
use Rattle.kt_protocol.specs.Machine.{Instance, Check, Rollback, AppMessage, Message, App, Ask, Node, Board, State, next_label}
use Rattle.kt_protocol.specs.Steps.{Step, sends, hears, keeps, takes, drops, ignores, refuses, grants, joins, begins, restarts, counts, agrees, declines}
use Rattle.kt_protocol.specs.Steps.{decides_rollback, decides_check, gives_up_rollback, gives_up_check, learns_yes, learns_no, releases, fails, fails_holding}
use Rattle.kt_protocol.specs.Steps.{change, pull, push, only, asking, ask_label, consenting, loading, sending, rising, sieve, sieved}
use Rattle.kt_protocol.proofs.Shared.{at-both, tail-in, pull-else, pull-here, pull-other, push-else, push-here, Invariant}

-- what is said of a message: of the act that sent it, of who sent it to whom, and of its label
abbrev pub Saying : Type 1
Saying = ℕ → ℕ → ℕ → Label → Type 0

-- it holds of all that the node o remembers and keeps
pub record NodeFits (P : Saying) (o : ℕ) (log : List Act) (kept : ℕ → List AppMessage) : Type 0 where
  pub sent : (by y : ℕ) (l : Label) → IsIn (Sends by y l) log → P by o y l
  pub heard : (by x : ℕ) (l : Label) → IsIn (Hears by x l) log → P by x o l
  pub keeps : (x : ℕ) (m : AppMessage) → IsIn m (kept x) → P m.by x o m.label

-- and of all that is under way
abbrev pub LinksFit : Saying → (ℕ → ℕ → List Message) → Type 0
LinksFit P link = (p q : ℕ) (m : AppMessage) → IsIn (App m) (link p q) → P m.by p q m.label

pub record AllFit (P : Saying) (c : State) : Type 0 where
  pub nodes : (o : ℕ) → NodeFits P o (c.node o).log (c.node o).kept
  pub links : LinksFit P c.link

pub fit-more : (P Q : Saying) (c : State) → ((by p q : ℕ) (l : Label) → P by p q l → Q by p q l) → AllFit P c → AllFit Q c
fit-more P Q c more fit = record {
  nodes = λ o. record {
    sent = λ by y l i. more by o y l ((fit.nodes o).sent by y l i);
    heard = λ by x l i. more by x o l ((fit.nodes o).heard by x l i);
    keeps = λ x m i. more m.by x o m.label ((fit.nodes o).keeps x m i);
  };
  links = λ p q m i. more m.by p q m.label (fit.links p q m i);
}

-- the step does not send
abbrev pub IsQuiet : {peer : ℕ → ℕ → Bool} {s t : State} → Step peer s t → Type 0
IsQuiet (sends o y by u up) = ⊥
IsQuiet x = Unit {0}

pub record QuietStep (peer : ℕ → ℕ → Bool) (s t : State) : Type 0 where
  pub step : Step peer s t
  pub quiet : IsQuiet step

-- ---- lists

pub in-parts : {A : Type 0} (xs ys : List A) (x : A) → IsIn x (xs ++ ys) → IsIn x xs ⊎ IsIn x ys
in-parts [] ys x i = inr i
in-parts (y ∷ xs) ys x here = inl here
in-parts (y ∷ xs) ys x (there i) = elim (in-parts xs ys x i) [ inl a ↦ inl (there a) | inr b ↦ inr b ]

pub in-front : {A : Type 0} (xs ys : List A) (x : A) → IsIn x xs → IsIn x (xs ++ ys)
in-front [] ys x i = elim i [ ]
in-front (y ∷ xs) ys x here = here
in-front (y ∷ xs) ys x (there i) = there (in-front xs ys x i)

in-cons : {A : Type 0} (x y : A) (xs ys : List A) → (IsIn x xs → IsIn x ys) → IsIn x (y ∷ xs) → IsIn x (y ∷ ys)
in-cons x y xs ys more here = here
in-cons x y xs ys more (there i) = there (more i)

in-sieve : (l : Label) (ks : List AppMessage) (m : AppMessage) → IsIn m (sieve l ks) → IsIn m ks
unfolding sieve
in-sieve l [] m i = i
in-sieve l (k ∷ ks) m i = by (in-sieve l ks m) (up_to k.label l) i where
  by : (IsIn m (sieve l ks) → IsIn m ks) → (b : Bool) → IsIn m (if b then k ∷ sieve l ks else sieve l ks) → IsIn m (k ∷ ks)
  by old true j = in-cons m k (sieve l ks) ks old j
  by old false j = there (old j)

in-sieved : (i : Instance) (l : Label) (ks : List AppMessage) (m : AppMessage) → IsIn m (sieved i l ks) → IsIn m ks
in-sieved (Check k) l ks m j = j
in-sieved (Rollback k) l ks m j = in-sieve l ks m j

-- ---- links

in-pulled : (x o : ℕ) (first : Message) (rest : List Message) (s : State) → s.link x o ≡ first ∷ rest → (p q : ℕ) (m : Message)
    → IsIn m ((pull x o rest s).link p q) → IsIn m (s.link p q)
in-pulled x o first rest s front p q m i = elim (cases_eq q o) [
  | inl e ↦ subst (λ k. IsIn m (s.link p k)) (sym e) (by (cases_eq p x) (subst (λ k. IsIn m ((pull x o rest s).link p k)) e i))
  | inr ne ↦ subst (λ l. IsIn m l) (pull-else x o rest s p q ne) i
] where
  by : (p ≡ x) ⊎ (p ≢ x) → IsIn m ((pull x o rest s).link p o) → IsIn m (s.link p o)
  by (inl e) j =
      let now : IsIn m rest = subst (λ l. IsIn m l) (pull-here x o rest s) (subst (λ k. IsIn m ((pull x o rest s).link k o)) e j) in
      subst (λ k. IsIn m (s.link k o)) (sym e) (subst (λ l. IsIn m l) (sym front) (there now))
  by (inr ne) j = subst (λ l. IsIn m l) (pull-other x o rest s p ne) j

in-pushed : (o : ℕ) (send : ℕ → List Message) (s : State) (p q : ℕ) (m : Message) → IsIn m ((push o send s).link p q)
    → IsIn m (s.link p q) ⊎ ((p ≡ o) × IsIn m (send q))
in-pushed o send s p q m i = elim (cases_eq p o) [
  | inl e ↦
      let own : IsIn m (s.link o q ++ send q) = subst (λ l. IsIn m l) (push-here o send s q) (subst (λ k. IsIn m ((push o send s).link k q)) e i) in
      elim (in-parts (s.link o q) (send q) m own) [
        | inl old ↦ inl (subst (λ k. IsIn m (s.link k q)) (sym e) old)
        | inr new ↦ inr (e, new)
      ]
  | inr ne ↦ inl (subst (λ l. IsIn m l) (push-else o send s p q ne) i)
]

-- an ask is no underlying message
none-asked : (i : Instance) (cohort : ℕ → Bool) (n : Node) (q : ℕ) (m : AppMessage) → IsIn (App m) (asking i cohort n q) → ⊥
none-asked i cohort n q m j = by (cohort q) j where
  by : (b : Bool) → IsIn (App m) (if b then Ask i (ask_label i n q) n.life ∷ [] else []) → ⊥
  by true (there k) = elim k [ ]
  by false k = elim k [ ]

pulled-fit : (P : Saying) (x o : ℕ) (first : Message) (rest : List Message) (s : State) → s.link x o ≡ first ∷ rest → LinksFit P s.link
    → LinksFit P (pull x o rest s).link
pulled-fit P x o first rest s front fit p q m i = fit p q m (in-pulled x o first rest s front p q (App m) i)

asked-fit : (P : Saying) (o : ℕ) (i : Instance) (cohort : ℕ → Bool) (n : Node) (s : State) → LinksFit P s.link
    → LinksFit P (push o (asking i cohort n) s).link
asked-fit P o i cohort n s fit p q m j = elim (in-pushed o (asking i cohort n) s p q (App m) j) [
  | inl old ↦ fit p q m old
  | inr new ↦ absurd (none-asked i cohort n q m new.1)
]

-- ---- nodes

nodes-fit : (P : Saying) (o : ℕ) (new : Node) (f : ℕ → Node) → ((x : ℕ) → NodeFits P x (f x).log (f x).kept) → NodeFits P o new.log new.kept
    → (x : ℕ) → NodeFits P x (at o new f x).log (at o new f x).kept
nodes-fit P o new f fit own x =
    let F : ℕ → Node → Type 0 = λ k n. NodeFits P k n.log n.kept in
    at-both o new f x (F x) (λ e. subst (λ k. F k new) (sym e) own) (λ ne. fit x)

-- the node keeps other messages of x
kept-fit : (P : Saying) (o x : ℕ) (ks : List AppMessage) (log : List Act) (kept : ℕ → List AppMessage) → NodeFits P o log kept
    → ((m : AppMessage) → IsIn m ks → P m.by x o m.label) → NodeFits P o log (at x ks kept)
kept-fit P o x ks log kept fit new = record {
  sent = fit.sent;
  heard = fit.heard;
  keeps = λ y m. at-both x ks kept y (λ l. IsIn m l → P m.by y o m.label) (λ e i. subst (λ k. P m.by k o m.label) (sym e) (new m i)) (λ ne i. fit.keeps y m i);
}

sieved-fit : (P : Saying) (o x : ℕ) (i : Instance) (l : Label) (log : List Act) (kept : ℕ → List AppMessage) → NodeFits P o log kept
    → NodeFits P o log (at x (sieved i l (kept x)) kept)
sieved-fit P o x i l log kept fit = kept-fit P o x (sieved i l (kept x)) log kept fit (λ m j. fit.keeps x m (in-sieved i l (kept x) m j))

heard-fit : (P : Saying) (o x : ℕ) (m : AppMessage) (log : List Act) (kept : ℕ → List AppMessage) → NodeFits P o log kept → P m.by x o m.label
    → NodeFits P o (Hears m.by x m.label ∷ log) kept
heard-fit P o x m log kept fit new = record {
  sent = λ by y l i. elim i [ there j ↦ fit.sent by y l j ];
  heard = λ by y l i. first by y l i;
  keeps = fit.keeps;
} where
  first : (by y : ℕ) (l : Label) → IsIn (Hears by y l) (Hears m.by x m.label ∷ log) → P by y o l
  first by y l here = new
  first by y l (there j) = fit.heard by y l j

sent-fit : (P : Saying) (o y by : ℕ) (l : Label) (log : List Act) (kept : ℕ → List AppMessage) → NodeFits P o log kept → P by o y l
    → NodeFits P o (Sends by y l ∷ log) kept
sent-fit P o y by l log kept fit new = record {
  sent = λ b z k i. first b z k i;
  heard = λ b x k i. other b x k i;
  keeps = fit.keeps;
} where
  first : (b z : ℕ) (k : Label) → IsIn (Sends b z k) (Sends by y l ∷ log) → P b o z k
  first b z k here = new
  first b z k (there j) = fit.sent b z k j

  other : (b x : ℕ) (k : Label) → IsIn (Hears b x k) (Sends by y l ∷ log) → P b x o k
  other b x k (there j) = fit.heard b x k j

-- the log is cut to the permanent checkpoint, and nothing is kept
cut-fit : (P : Saying) {peer : ℕ → ℕ → Bool} (s : State) → Invariant peer s → AllFit P s → (o : ℕ) → NodeFits P o (s.node o).perm (λ x. [])
cut-fit P s inv fit o = record {
  sent = λ by y l i. (fit.nodes o).sent by y l (tail-in (inv.local o).tail i);
  heard = λ by x l i. (fit.nodes o).heard by x l (tail-in (inv.local o).tail i);
  keeps = λ x m i. elim i [ ];
}

-- ---- steps

fit-change : (P : Saying) (s : State) (o : ℕ) (new : Node) (link : ℕ → ℕ → List Message) (board : Board) → AllFit P s → NodeFits P o new.log new.kept
    → LinksFit P link → AllFit P record { node = at o new s.node; link = link; board = board }
fit-change P s o new link board fit own links = record { nodes = nodes-fit P o new s.node fit.nodes own; links = links }

pub sends-fits : (P : Saying) (s : State) (o y by : ℕ) → AllFit P s → P by o y (next_label (s.node o))
    → AllFit P (change o (sending by y) (push o (only y (App record { by = by; label = next_label (s.node o) })) s))
sends-fits P s o y by fit new =
    fit-change P s o (sending by y (s.node o)) (push o send s).link s.board fit
    (sent-fit P o y by (next_label (s.node o)) (s.node o).log (s.node o).kept (fit.nodes o) new) links
  where
    send : ℕ → List Message
    send = only y (App record { by = by; label = next_label (s.node o) })

    the-one : (q : ℕ) (m : AppMessage) → IsIn (App m) (send q) → P m.by o q m.label
    the-one q m i = elim (cases_eq q y) [
      | inl e ↦
          let at_y : IsIn (App m) (App record { by = by; label = next_label (s.node o) } ∷ []) = rw (eq-eqb q y e) at i in
          subst (λ k. P m.by o k m.label) (sym e) (it m at_y)
      | inr ne ↦ let none : IsIn (App m) [] = rw (ne_eqb q y ne) at i in elim none [ ]
    ] where
      it : (m : AppMessage) → IsIn (App m) (App record { by = by; label = next_label (s.node o) } ∷ []) → P m.by o y m.label
      it m here = new
      it m (there j) = elim j [ ]

    links : LinksFit P (push o send s).link
    links p q m i = elim (in-pushed o send s p q (App m) i) [
      | inl old ↦ fit.links p q m old
      | inr own ↦ subst (λ k. P m.by k q m.label) (sym own.0) (the-one q m own.1)
    ]

pub quiet-fits : (P : Saying) (peer : ℕ → ℕ → Bool) (s t : State) → Invariant peer s → AllFit P s → (x : Step peer s t) → IsQuiet x → AllFit P t
quiet-fits P peer s t inv fit (sends o y by u up) quiet = absurd quiet
quiet-fits P peer s t inv fit (hears o x m rest u up bare front) quiet =
    fit-change P s o _ _ s.board fit
    (heard-fit P o x m (s.node o).log (s.node o).kept (fit.nodes o) (fit.links x o m (subst (λ l. IsIn (App m) l) (sym front) here)))
    (pulled-fit P x o (App m) rest s front fit.links)
quiet-fits P peer s t inv fit (keeps o x m rest u front) quiet =
    fit-change P s o _ _ s.board fit
    (kept-fit P o x ((s.node o).kept x ++ m ∷ []) (s.node o).log (s.node o).kept (fit.nodes o) more)
    (pulled-fit P x o (App m) rest s front fit.links)
  where
    it : (k : AppMessage) → IsIn k (m ∷ []) → P k.by x o k.label
    it k here = fit.links x o m (subst (λ l. IsIn (App m) l) (sym front) here)
    it k (there j) = elim j [ ]

    more : (k : AppMessage) → IsIn k ((s.node o).kept x ++ m ∷ []) → P k.by x o k.label
    more k i = elim (in-parts ((s.node o).kept x) (m ∷ []) k i) [ inl old ↦ (fit.nodes o).keeps x k old | inr new ↦ it k new ]
quiet-fits P peer s t inv fit (takes o x m ks u up front) quiet =
    fit-change P s o _ _ s.board fit
    (heard-fit P o x m (s.node o).log (at x ks (s.node o).kept)
    (kept-fit P o x ks (s.node o).log (s.node o).kept (fit.nodes o)
    (λ k i. (fit.nodes o).keeps x k (subst (λ l. IsIn k l) (sym front) (there i))))
    ((fit.nodes o).keeps x m (subst (λ l. IsIn m l) (sym front) here)))
    fit.links
quiet-fits P peer s t inv fit (drops o x m rest u front) quiet = record { nodes = fit.nodes; links = pulled-fit P x o (App m) rest s front fit.links }
quiet-fits P peer s t inv fit (ignores o x i l c rest u front) quiet =
    fit-change P s o _ _ s.board fit (sieved-fit P o x i l (s.node o).log (s.node o).kept (fit.nodes o)) (pulled-fit P x o _ rest s front fit.links)
quiet-fits P peer s t inv fit (refuses o x i l c rest u front) quiet =
    fit-change P s o _ _ s.board fit (sieved-fit P o x i l (s.node o).log (s.node o).kept (fit.nodes o)) (pulled-fit P x o _ rest s front fit.links)
quiet-fits P peer s t inv fit (grants o x i l c rest u front opened may) quiet =
    fit-change P s o _ _ s.board fit (sieved-fit P o x i l (s.node o).log (s.node o).kept (fit.nodes o)) (pulled-fit P x o _ rest s front fit.links)
quiet-fits P peer s t inv fit (joins o x i l c rest cohort u front up opened must asked) quiet =
    fit-change P s o _ _ s.board fit (sieved-fit P o x i l (s.node o).log (s.node o).kept (fit.nodes o))
    (asked-fit P o i cohort (s.node o) (pull x o rest s) (pulled-fit P x o _ rest s front fit.links))
quiet-fits P peer s t inv fit (begins o k cohort up unbegun asked) quiet =
    fit-change P s o _ _ _ fit (fit.nodes o) (asked-fit P o (Check k) cohort (s.node o) s fit.links)
quiet-fits P peer s t inv fit (restarts o k cohort down none cut unbegun asked) quiet =
    fit-change P s o _ _ _ fit (cut-fit P s inv fit o) (asked-fit P o (Rollback k) cohort (loading (s.node o)) s fit.links)
quiet-fits P peer s t inv fit (counts o q i b y u e a v) quiet = fit-change P s o _ _ s.board fit (fit.nodes o) fit.links
quiet-fits P peer s t inv fit (agrees o i b k e par unvoted agreed) quiet = fit-change P s o _ _ s.board fit (fit.nodes o) fit.links
quiet-fits P peer s t inv fit (declines o i b k e par unvoted) quiet = fit-change P s o _ _ s.board fit (fit.nodes o) fit.links
quiet-fits P peer s t inv fit (decides_rollback o k b e par opened agreed) quiet =
    let mid : State = change o (consenting (Rollback k) b) s in
    let once : AllFit P mid = fit-change P s o _ _ s.board fit (fit.nodes o) fit.links in
    fit-change P mid o (rising (mid.node o)) _ _ once (once.nodes o) fit.links
quiet-fits P peer s t inv fit (decides_check o k b e par opened agreed) quiet =
    let once : AllFit P (change o (consenting (Check k) b) s) = fit-change P s o _ _ s.board fit (fit.nodes o) fit.links in
    record { nodes = once.nodes; links = fit.links }
quiet-fits P peer s t inv fit (gives_up_rollback k begun opened) quiet = record { nodes = fit.nodes; links = fit.links }
quiet-fits P peer s t inv fit (gives_up_check k begun opened) quiet = record { nodes = fit.nodes; links = fit.links }
quiet-fits P peer s t inv fit (learns_yes o k b e decided) quiet = fit-change P s o _ _ s.board fit (cut-fit P s inv fit o) fit.links
quiet-fits P peer s t inv fit (learns_no o k b p e par decided) quiet = fit-change P s o _ _ s.board fit (fit.nodes o) fit.links
quiet-fits P peer s t inv fit (releases o k b e none) quiet = fit-change P s o _ _ s.board fit (fit.nodes o) fit.links
quiet-fits P peer s t inv fit (fails o none) quiet = fit-change P s o _ _ s.board fit (cut-fit P s inv fit o) fit.links
quiet-fits P peer s t inv fit (fails_holding o k held) quiet =
    fit-change P s o _ _ s.board fit (record { sent = (fit.nodes o).sent; heard = (fit.nodes o).heard; keeps = λ x m i. elim i [ ] }) fit.links
