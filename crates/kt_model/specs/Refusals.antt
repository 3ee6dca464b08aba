-- Why a step is refused, by why its owner refuses it, and the numbers of refusals.
-- Cited by error.rt, specs/StepPlan; other crates.
use Rattle.std.specs.Prelude.{ℕ}
use Rattle.kt_store.specs.declared.error.StoreError.TheVariants as stores
use Rattle.kt_state.specs.declared.refusal.Refusal.{Refusal}
use Rattle.kt_state.specs.declared.refusal.Refusal.TheVariants as reasons
use Rattle.kt_model.specs.declared.error.StepError.{StepError}
use Rattle.kt_model.specs.declared.error.StepError.TheVariants as refusals

-- why a step is refused that its owner refuses; a checkpoint that does not fit is the store's fault
abbrev pub refusal_of : Refusal → StepError
refusal_of reasons.WrongMode = refusals.WrongMode
refusal_of reasons.NothingThere = refusals.NothingThere
refusal_of reasons.NoSuchMatch = refusals.NoSuchMatch
refusal_of reasons.NotDecided = refusals.NotDecided
refusal_of reasons.Unresolved = refusals.Unresolved
refusal_of reasons.Damaged = refusals.Store stores.Damaged
refusal_of reasons.OutOfMemory = refusals.OutOfMemory

abbrev pub refusal_number : StepError → ℕ
refusal_number refusals.NoNode = 1
refusal_number refusals.WrongMode = 2
refusal_number refusals.NothingThere = 3
refusal_number refusals.NoSuchMatch = 4
refusal_number refusals.NotDecided = 5
refusal_number refusals.Unresolved = 6
refusal_number refusals.StepLimit = 7
refusal_number (refusals.Store refusal) = 8
refusal_number refusals.OutOfMemory = 9
