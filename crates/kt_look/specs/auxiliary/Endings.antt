-- How the telling of a text ends, once that is read.
-- Cited by Tellings, telling.rt, `telling::write_told`.
use Rattle.std.specs.Prelude.{◌≡◌, ℕ, List, Result, Err}
use Rattle.kt_scene.specs.Outside.{Writer}
use Rattle.kt_scene.specs.Stream.{WritesAll, WritesFront}
use Rattle.kt_scene.specs.declared.fault.ReplayFault.{ReplayFault}
use Rattle.kt_scene.specs.declared.fault.ReplayFault.TheVariants as faults
use Rattle.kt_tell.specs.declared.choice.Choice.{Choice}
use Rattle.kt_look.specs.declared.telling.Form.{Form}
use Rattle.kt_look.specs.Told.{IsTold, IsUntold}

-- what is told is written, and the answer is how the steps ended; or a front of it is
pub data EndsWriting (told : List ℕ) (end : Result (Unit {0}) ReplayFault) (old new : Writer)
    : Result (Unit {0}) ReplayFault → Type 0 where
  all_written : WritesAll old new told → EndsWriting told end old new end
  front_written : WritesFront old new told → EndsWriting told end old new (Err faults.Write)

-- the same of a text that was read; or nothing is written, because of the text
pub data EndsTelling (form : Form) (choice : Choice) (text : List ℕ) (old new : Writer)
    : Result (Unit {0}) ReplayFault → Type 0 where
  is_written : {answer : Result (Unit {0}) ReplayFault} (told : List ℕ) → IsTold form choice text told answer
      → WritesAll old new told → EndsTelling form choice text old new answer
  is_cut_off : {end : Result (Unit {0}) ReplayFault} (told : List ℕ) → IsTold form choice text told end
      → WritesFront old new told → EndsTelling form choice text old new (Err faults.Write)
  is_untold : (fault : ReplayFault) → IsUntold text fault → new ≡ old → EndsTelling form choice text old new (Err fault)
