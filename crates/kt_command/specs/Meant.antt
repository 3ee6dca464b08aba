-- How the question ends what a number or a name means.
-- Cited by meaning.rt, specs/Opened, `meaning::explain_word`.
use Rattle.std.specs.Prelude.{◌≡◌, ◌≢◌, ℕ, []}
use Rattle.kt_scene.specs.Outside.{Writer}
use Rattle.kt_command.specs.Printed.{Prints}

-- something is said of the word; or, where it means nothing, with 2, and nothing is written
pub data EndsMeant (old new : Writer) (n : ℕ) : Type 0 where
  said : Prints (λ text. text ≢ []) old new n → EndsMeant old new n
  unknown : new ≡ old → n ≡ 2 → EndsMeant old new n
