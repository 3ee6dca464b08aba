-- What the counts of a store tell of its calls.
-- Cited by no other file of crates/.
use Rattle.std.proofs.Common.{◌≡◌, ◌⊎◌, inl, inr, ◌<◌, ◌≤◌, ℕ, ◌+◌, Bool, arith, refl, sym, subst}
use Rattle.std.specs.Prelude.{Result, Ok, Err, OnOk, IfErr, IsErrOf}
use Rattle.kt_store.specs.declared.error.StoreError.{StoreError}
use Rattle.kt_store.specs.declared.error.StoreError.TheVariants.{Memory, Device, Damaged, Full}
use Rattle.kt_store.specs.Calls.{Counts, HasCause, counted, most, raised, raised_by}

-- a count never falls; it rises for its cause alone, by one, and shows it unless it stands at its greatest value
pub record Rises (before now : ℕ) (IsCause : Type 0) : Type 0 where
  pub later : before ≤ now
  pub once : now ≤ before + 1
  pub only : (now ≡ before) ⊎ IsCause
  pub shows : IsCause → (before < now) ⊎ (now ≡ most)

raised-later : (n : ℕ) → n ≤ raised n
raised-later n = grind arith

raised-once : (n : ℕ) → raised n ≤ n + 1
raised-once n = grind arith

raised-shows : (n : ℕ) → (n < raised n) ⊎ (raised n ≡ most)
raised-shows n = grind arith

rises : {P : Type 0} (n : ℕ) → P → Rises n (raised n) P
rises n p = record { later = raised-later n; once = raised-once n; only = inr p; shows = λ is. raised-shows n }

stays : {P : Type 0} (n : ℕ) → ¬ P → Rises n n P
stays n none = record { later = omega arith; once = omega arith; only = inl refl; shows = λ is. absurd (none is) }

-- an answer is no refusal, and a refusal no other
not-ok : {T : Type 0} {r : Result T StoreError} (x : T) (e : StoreError) → r ≡ Ok x → ¬ (r ≡ Err e)
not-ok x e here is = cc (here, is)

not-other : {T : Type 0} {r : Result T StoreError} (e f : StoreError) → ¬ (e ≡ f) → r ≡ Err e → ¬ (r ≡ Err f)
not-other e f others here is = others (cc (here, is))

faults-counted : {T : Type 0} (c : Counts) (r : Result T StoreError) → Rises c.faults (counted r c).faults (IsErrOf r Device)
faults-counted c (Ok x) = stays c.faults (not-ok x Device refl)
faults-counted c (Err Memory) = stays c.faults (not-other Memory Device (λ is. cc is) refl)
faults-counted c (Err Device) = rises c.faults refl
faults-counted c (Err Damaged) = stays c.faults (not-other Damaged Device (λ is. cc is) refl)
faults-counted c (Err Full) = stays c.faults (not-other Full Device (λ is. cc is) refl)

wants-counted : {T : Type 0} (c : Counts) (r : Result T StoreError) → Rises c.wants (counted r c).wants (IsErrOf r Memory)
wants-counted c (Ok x) = stays c.wants (not-ok x Memory refl)
wants-counted c (Err Memory) = rises c.wants refl
wants-counted c (Err Device) = stays c.wants (not-other Device Memory (λ is. cc is) refl)
wants-counted c (Err Damaged) = stays c.wants (not-other Damaged Memory (λ is. cc is) refl)
wants-counted c (Err Full) = stays c.wants (not-other Full Memory (λ is. cc is) refl)

module _ {T : Type 0} {before now : Counts} {is_honest : Bool} {IsFull : Type 0} {result : Result T StoreError} where
  -- the count of faults rises for the device
  pub faults_rise : HasCause before now is_honest IsFull result → Rises before.faults now.faults (IsErrOf result Device)
  faults_rise h = subst (λ c. Rises before.faults c.faults (IsErrOf result Device)) (sym h.counts) (faults-counted before result)

  -- the count of wants rises for memory
  pub wants_rise : HasCause before now is_honest IsFull result → Rises before.wants now.wants (IsErrOf result Memory)
  wants_rise h = subst (λ c. Rises before.wants c.wants (IsErrOf result Memory)) (sym h.counts) (wants-counted before result)

  -- neither falls
  pub faults_later : HasCause before now is_honest IsFull result → before.faults ≤ now.faults
  faults_later h = (faults_rise h).later

  pub wants_later : HasCause before now is_honest IsFull result → before.wants ≤ now.wants
  wants_later h = (wants_rise h).later

  -- a refusal shows in the count of its cause
  pub device_shows : HasCause before now is_honest IsFull result → IsErrOf result Device → (before.faults < now.faults) ⊎ (now.faults ≡ most)
  device_shows h = (faults_rise h).shows

  pub memory_shows : HasCause before now is_honest IsFull result → IsErrOf result Memory → (before.wants < now.wants) ⊎ (now.wants ≡ most)
  memory_shows h = (wants_rise h).shows

  -- an answer leaves both
  pub counts_stay : HasCause before now is_honest IsFull result → OnOk result (now ≡ before)
  counts_stay h = subst (λ c. OnOk result (c ≡ before)) (sym h.counts) (at result)
    where
      at : (r : Result T StoreError) → OnOk r (counted r before ≡ before)
      at (Ok x) = refl
      at (Err e) = tt

  -- a refusal raises the one of its cause
  pub counts_raised : HasCause before now is_honest IsFull result → IfErr result (λ e. now ≡ raised_by e before)
  counts_raised h = subst (λ c. IfErr result (λ e. c ≡ raised_by e before)) (sym h.counts) (at result)
    where
      at : (r : Result T StoreError) → IfErr r (λ e. counted r before ≡ raised_by e before)
      at (Ok x) = tt
      at (Err e) = refl
