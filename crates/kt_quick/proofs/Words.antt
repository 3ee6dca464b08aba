-- How the program ends by the same words.
-- Cited by `program::run_arguments`, `program::run_texts`.
use Rattle.std.proofs.Common.{◌≡◌, ℕ, List, subst}
use Rattle.kt_scene.specs.Outside.{Reader, Writer}
use Rattle.kt_command.specs.Command.{Text}
use Rattle.kt_quick.specs.Words.{IsQuickStatus}

-- what is told of words is told of the same words
pub told_of_same : (u v : List Text) (before after : Reader) (old new : Writer) (n : ℕ) → u ≡ v
    → IsQuickStatus u before after old new n → IsQuickStatus v before after old new n
told_of_same u v before after old new n same told = subst (λ (ws : List Text). IsQuickStatus ws before after old new n) same told
