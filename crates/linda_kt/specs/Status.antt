-- How a run of the program ends, over the store in memory or the file that it names.
-- Cited by Statuses, program.rt, `program::run_arguments`, `program::run_program`, `program::run_texts`.
use Rattle.std.specs.Prelude.{◌≡◌, ◌⊎◌, ℕ, List, Option, Some, Result}
use Rattle.clap.specs.Words.{Text}
use Rattle.kt_store.specs.declared.store.CkptStore.{Ghosts}
use Rattle.kt_scene.specs.Outside.{Reader, Writer}
use Rattle.kt_store.specs.Content.{Content}
use Rattle.kt_command.specs.Command.{Asked}
use Rattle.kt_command.specs.Opened.{EndsAsked}
use Rattle.linda_kt.specs.Words.{asked_by}

-- the exit status of words that name no command: 0 where help was shown, 2 where they are wrong, 6 where
-- memory ran out, 7 where help could not be written
abbrev pub IsWordsStatus : ℕ → Type 0
IsWordsStatus n = (n ≡ 0) ⊎ ((n ≡ 2) ⊎ ((n ≡ 6) ⊎ (n ≡ 7)))

-- the exit status of words without a fault: that of what they ask, by what the opener may answer for the path of a
-- store, of its copy and of a scenario, and the carrier for a connection; or 6, with nothing read and nothing written,
-- where memory ran out before that was known
pub data IsRunStatus {S C F G X Y : Type 0} (kind : Ghosts S) (gives : Text → Result S F → Type 0)
    (copies : Text → Result S G → Type 0)
    (connects : Text → Result C F → Type 0) (carries : C → Content → Result (Unit {0}) F → Type 0)
    (remaining : X → Option (List ℕ)) (texts : Text → Result X Y → Type 0) (words : List Text)
    (before after : Reader) (old new : Writer) (n : ℕ) : Type 0 where
  did : (asked : Asked) → asked_by words ≡ Some asked
      → EndsAsked kind gives copies connects carries remaining texts asked before after old new n
      → IsRunStatus kind gives copies connects carries remaining texts words before after old new n
  unread : n ≡ 6 → after ≡ before → new ≡ old
      → IsRunStatus kind gives copies connects carries remaining texts words before after old new n
