-- What every call of a store keeps, and why it may be refused.
-- Cited by Counting, Faulting, memory.rt, specs/auxiliary/Failing, store.rt; other crates.
use Rattle.std.specs.Prelude.{◌≡◌, ◌==◌, ℕ, ◌+◌, ◌-◌, ◌^◌, Bool, false, if◌then◌else◌, Result, Ok, Err, IsErrOf}
use Rattle.kt_store.specs.declared.error.StoreError.{StoreError}
use Rattle.kt_store.specs.declared.error.StoreError.TheVariants.{Memory, Device, Damaged, Full}

-- how often the device has failed so far, and how often memory was refused
pub record Counts : Type 0 where
  pub faults : ℕ
  pub wants : ℕ

-- nothing was refused so far
abbrev pub nothing_counted : Counts
nothing_counted = record { faults = 0; wants = 0 }

-- the greatest value of a count
abbrev pub most : ℕ
most = 2 ^ 64 - 1

-- one more, but a count stays at its greatest value
abbrev pub raised : ℕ → ℕ
raised n = if n == most then n else n + 1

-- a refusal raises the count of its cause, where that has one
abbrev pub raised_by : StoreError → Counts → Counts
raised_by Memory c = record c { wants = raised c.wants }
raised_by Device c = record c { faults = raised c.faults }
raised_by Damaged c = c
raised_by Full c = c

-- an answer that is no refusal leaves both
abbrev pub counted : {T : Type 0} → Result T StoreError → Counts → Counts
counted (Ok x) c = c
counted (Err e) c = raised_by e c

-- the counts rise by this answer and no other; a refusal for damage comes never while the store is honest, and one for
-- a full store only where this number can't be raised
pub record HasCause {T : Type 0} (before now : Counts) (is_honest : Bool) (IsFull : Type 0)
    (result : Result T StoreError) : Type 0 where
  pub counts : now ≡ counted result before
  pub damaged : IsErrOf result Damaged → is_honest ≡ false
  pub full : IsErrOf result Full → IsFull

-- nothing that lies under a store of this kind can fail it
abbrev pub NeverFails : {S : Type 0} → (S → ℕ) → Type 0
NeverFails {S = S} failures = (store : S) → failures store ≡ 0
