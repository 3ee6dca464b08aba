-- Why a store is not opened.
-- Cited by `SqlStore::adopt`.
use Rattle.std.proofs.Common.{◌≡◌, ◌⊎◌, inl, inr, refl}
use Rattle.kt_sql.specs.declared.error.SqlOpenError.{SqlOpenError}
use Rattle.kt_sql.specs.declared.error.SqlOpenError.TheVariants.{Memory, Device, Damaged, Version, Mismatch}

-- where no other name is told, one of these two is
pub only_two : (e : SqlOpenError) → (e ≡ Damaged → ⊥) → (e ≡ Version → ⊥) → (e ≡ Mismatch → ⊥) → (e ≡ Memory) ⊎ (e ≡ Device)
only_two Memory damaged version mismatch = inl refl
only_two Device damaged version mismatch = inr refl
only_two Damaged damaged version mismatch = absurd (damaged refl)
only_two Version damaged version mismatch = absurd (version refl)
only_two Mismatch damaged version mismatch = absurd (mismatch refl)
