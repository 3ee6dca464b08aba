-- Stacks of acts: labels fall along a log, and what a tail of it holds.
-- Cited by Casts, Checks, Consequences, Cuts, Grounds, Invariant, Keeps, Main, Rises, Starts, Talks; other crates.
use Rattle.std.proofs.Common.{◌≡◌, ◌≢◌, ◌⊎◌, ℕ, inl, inr, refl, subst, List, [], ◌∷◌}
use Rattle.std.proofs.lemmas.Bool.{cases_eq, eq-eqb, ne_eqb}
use Rattle.kt_protocol.specs.Labels.{Label, Under, UpTo}
use Rattle.kt_protocol.specs.Logs.{IsIn, here, there, Act, Sends, Hears, Resumes, top_sent, top_heard, IsTail, all, more}
use Rattle.kt_protocol.proofs.Labels.{UpTo-Under, UpTo-trans, UpTo-refl, Under-weak, Under-not}

-- the labels to each node, and those heard from each node, rise along the log
abbrev pub Falls : List Act → Type 0
Falls [] = Unit {0}
Falls (Sends by y l ∷ log) = Under (top_sent log y) l × Falls log
Falls (Hears by x l ∷ log) = Under (top_heard log x) l × Falls log
Falls (Resumes o first sent heard ∷ log) =
    ((q : ℕ) → UpTo (top_sent log q) (sent q)) × ((q : ℕ) → UpTo (top_heard log q) (heard q)) × Falls log

pub sent-resumed : (o first : ℕ) (sent heard : ℕ → Label) (q : ℕ) (log : List Act) → top_sent (Resumes o first sent heard ∷ log) q ≡ sent q
unfolding top_sent
sent-resumed o first sent heard q log = refl

pub heard-resumed : (o first : ℕ) (sent heard : ℕ → Label) (q : ℕ) (log : List Act) → top_heard (Resumes o first sent heard ∷ log) q ≡ heard q
unfolding top_heard
heard-resumed o first sent heard q log = refl

pub sent-here : (by q : ℕ) (l : Label) (log : List Act) → top_sent (Sends by q l ∷ log) q ≡ l
unfolding top_sent
sent-here by q l log = rw (eq-eqb q q refl) refl

pub sent-else : (by y q : ℕ) (l : Label) (log : List Act) → y ≢ q → top_sent (Sends by y l ∷ log) q ≡ top_sent log q
unfolding top_sent
sent-else by y q l log ne = rw (ne_eqb y q ne) refl

pub sent-heard : (by x q : ℕ) (l : Label) (log : List Act) → top_sent (Hears by x l ∷ log) q ≡ top_sent log q
unfolding top_sent
sent-heard by x q l log = refl

pub sent-grows : (by y q : ℕ) (l : Label) (log : List Act) → Under (top_sent log y) l
    → UpTo (top_sent log q) (top_sent (Sends by y l ∷ log) q)
sent-grows by y q l log u = go (cases_eq y q) where
  go : (y ≡ q) ⊎ (y ≢ q) → UpTo (top_sent log q) (top_sent (Sends by y l ∷ log) q)
  go (inl e) = subst (λ k. UpTo (top_sent log k) (top_sent (Sends by y l ∷ log) k)) e (rw (sent-here by y l log) (Under-weak u))
  go (inr ne) = rw (sent-else by y q l log ne) (UpTo-refl (top_sent log q))

-- no message to q has a label above the last
pub sent-top : {b q : ℕ} {l : Label} (log : List Act) → Falls log → IsIn (Sends b q l) log → UpTo l (top_sent log q)
sent-top [] f i = elim i [ ]
sent-top (Sends by y m ∷ log) f here = rw (sent-here by y m log) (UpTo-refl m)
sent-top {b} {q} {l} (Sends by y m ∷ log) f (there i) = UpTo-trans (sent-top log f.1 i) (sent-grows by y q m log f.0)
sent-top {b} {q} {l} (Hears by x m ∷ log) f (there i) = rw (sent-heard by x q m log) (sent-top log f.1 i)
sent-top {b} {q} {l} (Resumes o first sent heard ∷ log) f (there i) = rw (sent-resumed o first sent heard q log) (UpTo-trans (sent-top log f.2 i) (f.0 q))

pub Falls-tail : {old log : List Act} → IsTail old log → Falls log → Falls old
Falls-tail all f = f
Falls-tail (more {x = Sends by y l} k t) f = Falls-tail t f.1
Falls-tail (more {x = Hears by y l} k t) f = Falls-tail t f.1
Falls-tail (more {x = Resumes o first sent heard} k t) f = absurd k

pub sent-tail : {old log : List Act} (q : ℕ) → IsTail old log → Falls log → UpTo (top_sent old q) (top_sent log q)
sent-tail {old} q all f = UpTo-refl (top_sent old q)
sent-tail q (more {x = Sends by y l} {xs} k t) f = UpTo-trans (sent-tail q t f.1) (sent-grows by y q l xs f.0)
sent-tail q (more {x = Hears by x l} {xs} k t) f = rw (sent-heard by x q l xs) (sent-tail q t f.1)
sent-tail q (more {x = Resumes o first sent heard} {xs} k t) f = absurd k

pub tail-in : {old log : List Act} {a : Act} → IsTail old log → IsIn a old → IsIn a log
tail-in all i = i
tail-in (more k t) i = there (tail-in t i)

-- a message of the log is one of its tail, or its label is above the tail's last
pub sent-split : {old log : List Act} {b q : ℕ} {l : Label} → IsTail old log → Falls log → IsIn (Sends b q l) log
    → IsIn (Sends b q l) old ⊎ Under (top_sent old q) l
sent-split all f i = inl i
sent-split (more {x = Sends by y m} {xs} k t) f here = inr (UpTo-Under (sent-tail y t f.1) f.0)
sent-split (more {x = Sends by y m} {xs} k t) f (there i) = sent-split t f.1 i
sent-split (more {x = Hears by x m} {xs} k t) f (there i) = sent-split t f.1 i
sent-split (more {x = Resumes o first sent heard} {xs} k t) f i = absurd k

pub sent-old : {old log : List Act} {b q : ℕ} {l : Label} → IsTail old log → Falls log → IsIn (Sends b q l) log
    → UpTo l (top_sent old q) → IsIn (Sends b q l) old
sent-old {old} {b = b} {q} {l} t f i u = go (sent-split t f i) where
  go : IsIn (Sends b q l) old ⊎ Under (top_sent old q) l → IsIn (Sends b q l) old
  go (inl j) = j
  go (inr v) = absurd (Under-not v u)

pub heard-here : (by q : ℕ) (l : Label) (log : List Act) → top_heard (Hears by q l ∷ log) q ≡ l
unfolding top_heard
heard-here by q l log = rw (eq-eqb q q refl) refl

pub heard-else : (by y q : ℕ) (l : Label) (log : List Act) → y ≢ q → top_heard (Hears by y l ∷ log) q ≡ top_heard log q
unfolding top_heard
heard-else by y q l log ne = rw (ne_eqb y q ne) refl

pub heard-sent : (by x q : ℕ) (l : Label) (log : List Act) → top_heard (Sends by x l ∷ log) q ≡ top_heard log q
unfolding top_heard
heard-sent by x q l log = refl

pub heard-grows : (by y q : ℕ) (l : Label) (log : List Act) → Under (top_heard log y) l
    → UpTo (top_heard log q) (top_heard (Hears by y l ∷ log) q)
heard-grows by y q l log u = go (cases_eq y q) where
  go : (y ≡ q) ⊎ (y ≢ q) → UpTo (top_heard log q) (top_heard (Hears by y l ∷ log) q)
  go (inl e) = subst (λ k. UpTo (top_heard log k) (top_heard (Hears by y l ∷ log) k)) e (rw (heard-here by y l log) (Under-weak u))
  go (inr ne) = rw (heard-else by y q l log ne) (UpTo-refl (top_heard log q))

-- no message heard from q has a label above the last
pub heard-top : {b q : ℕ} {l : Label} (log : List Act) → Falls log → IsIn (Hears b q l) log → UpTo l (top_heard log q)
heard-top [] f i = elim i [ ]
heard-top (Hears by y m ∷ log) f here = rw (heard-here by y m log) (UpTo-refl m)
heard-top {b} {q} {l} (Hears by y m ∷ log) f (there i) = UpTo-trans (heard-top log f.1 i) (heard-grows by y q m log f.0)
heard-top {b} {q} {l} (Sends by x m ∷ log) f (there i) = rw (heard-sent by x q m log) (heard-top log f.1 i)
heard-top {b} {q} {l} (Resumes o first sent heard ∷ log) f (there i) = rw (heard-resumed o first sent heard q log) (UpTo-trans (heard-top log f.2 i) (f.1 q))

pub heard-tail : {old log : List Act} (q : ℕ) → IsTail old log → Falls log → UpTo (top_heard old q) (top_heard log q)
heard-tail {old} q all f = UpTo-refl (top_heard old q)
heard-tail q (more {x = Hears by y l} {xs} k t) f = UpTo-trans (heard-tail q t f.1) (heard-grows by y q l xs f.0)
heard-tail q (more {x = Sends by x l} {xs} k t) f = rw (heard-sent by x q l xs) (heard-tail q t f.1)
heard-tail q (more {x = Resumes o first sent heard} {xs} k t) f = absurd k

-- a message heard in the log is one of its tail, or its label is above the tail's last
pub heard-split : {old log : List Act} {b q : ℕ} {l : Label} → IsTail old log → Falls log → IsIn (Hears b q l) log
    → IsIn (Hears b q l) old ⊎ Under (top_heard old q) l
heard-split all f i = inl i
heard-split (more {x = Hears by y m} {xs} k t) f here = inr (UpTo-Under (heard-tail y t f.1) f.0)
heard-split (more {x = Hears by y m} {xs} k t) f (there i) = heard-split t f.1 i
heard-split (more {x = Sends by x m} {xs} k t) f (there i) = heard-split t f.1 i
heard-split (more {x = Resumes o first sent heard} {xs} k t) f i = absurd k

-- a label above the last that a tail heard is of a message
pub heard-attained : {old log : List Act} (q : ℕ) → IsTail old log → Under (top_heard old q) (top_heard log q)
    → (b : ℕ) × IsIn (Hears b q (top_heard log q)) log
heard-attained q all u = absurd (Under-not u (UpTo-refl _))
heard-attained {old} q (more {x = Hears by y l} {xs = log} k t) u = go (heard-attained q t) (cases_eq y q) where
  go : (Under (top_heard old q) (top_heard log q) → (b : ℕ) × IsIn (Hears b q (top_heard log q)) log) → (y ≡ q) ⊎ (y ≢ q)
      → (b : ℕ) × IsIn (Hears b q (top_heard (Hears by y l ∷ log) q)) (Hears by y l ∷ log)
  go was (inl e) = subst (λ k. (b : ℕ) × IsIn (Hears b k (top_heard (Hears by y l ∷ log) k)) (Hears by y l ∷ log)) e (rw (heard-here by y l log) (by, here))
  go was (inr ne) =
      let found = was (rw (heard-else by y q l log ne) at u) in
      (found.0, rw (heard-else by y q l log ne) (there found.1))
heard-attained q (more {x = Sends by x l} {xs = log} k t) u =
    let found = heard-attained q t (rw (heard-sent by x q l log) at u) in
    (found.0, rw (heard-sent by x q l log) (there found.1))
heard-attained q (more {x = Resumes o first sent heard} k t) u = absurd k
