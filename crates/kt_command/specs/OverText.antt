-- How something ends that is done with the scenario in a file.
-- Cited by request.rt, specs/Opened.
use Rattle.std.specs.Prelude.{◌≡◌, ℕ, List, Option, Result, Ok, Err}
use Rattle.kt_scene.specs.Outside.{Reader, Writer}
use Rattle.kt_scene.specs.declared.source.Outcome.TheVariants.{Open}

-- over a reader that still has these bytes, and that was not called before
pub record EndsReading (left : Option (List ℕ)) (Ends : (before after : Reader) → ℕ → Type 0) (n : ℕ) : Type 0 where
  pub before : Reader
  pub after : Reader
  pub bytes : before.bytes ≡ left
  pub calls : before.calls ≡ 0
  pub outcome : before.outcome ≡ Open
  pub ends : Ends before after n

-- over what was answered where the file was opened: where there is no reader, with 7, and nothing written
abbrev pub EndsAnswered : {X Y : Type 0} → (X → Option (List ℕ)) → Result X Y
    → ((before after : Reader) → ℕ → Type 0) → (old new : Writer) → ℕ → Type 0
EndsAnswered remaining (Ok reader) Ends old new n = EndsReading (remaining reader) Ends n
EndsAnswered remaining (Err why) Ends old new n = (n ≡ 7) × (new ≡ old)

-- over one answer, which may be given for the file
pub record EndsOverText {X Y : Type 0} (remaining : X → Option (List ℕ)) (gives : Result X Y → Type 0)
    (Ends : (before after : Reader) → ℕ → Type 0) (old new : Writer) (n : ℕ) : Type 0 where
  pub answer : Result X Y
  pub given : gives answer
  pub ends : EndsAnswered remaining answer Ends old new n
