-- Why a call on tables is refused.
-- Cited by AnswerLemmas, held.rt, reads.rt.
use Rattle.std.specs.Prelude.{◌≡◌, Bool, false, Result, IsErrOf}
use Rattle.kt_store.specs.declared.error.StoreError.{StoreError}
use Rattle.kt_store.specs.declared.error.StoreError.TheVariants.{Damaged, Full}

-- for damage only where they are not sound, so never for a connection that was shut; and never for a number that can't
-- be raised
pub record HasReason {T : Type 0} (is_sound : Bool) (result : Result T StoreError) : Type 0 where
  pub damaged : IsErrOf result Damaged → is_sound ≡ false
  pub full : IsErrOf result Full → ⊥
