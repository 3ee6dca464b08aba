-- A truth in one byte.
-- Cited by OldWorkers, Primitive, States, numbers.rt, specs/OldState, specs/State, specs/Value,
--   `worker::push_fields`.
use Rattle.std.specs.Prelude.{ℕ, ◌==◌, Bool, if◌then◌else◌, List, [], ◌∷◌, Result}
use Rattle.kt_ckpt.specs.declared.error.CkptError.{CkptError}
use Rattle.kt_ckpt.specs.Reading.{made, byte_within}

abbrev pub flag_bytes : Bool → List ℕ
flag_bytes b = (if b then 1 else 0) ∷ []

unfoldable pub flag_at : List ℕ → Result (Bool × List ℕ) CkptError
flag_at bytes = made (λ n. n == 1) (byte_within 0 1 bytes)
