-- How the telling of what happens in a scenario ends.
-- Cited by specs/Opened, tracing.rt.
use Rattle.std.specs.Prelude.{◌≡◌, ℕ, Result}
use Rattle.kt_scene.specs.Outside.{Reader, Writer}
use Rattle.kt_scene.specs.declared.fault.ReplayFault.{ReplayFault}
use Rattle.kt_tell.specs.declared.choice.Choice.{Choice}
use Rattle.kt_look.specs.declared.telling.Form.{Form}
use Rattle.kt_look.specs.Told.{EndsTrace}
use Rattle.kt_command.specs.Answers.{answer_status}

-- with 0 where the trace is written and all steps were made, and else with the status of the fault
pub record EndsTraced (form : Form) (choice : Choice) (before after : Reader) (old new : Writer) (n : ℕ) : Type 0 where
  pub answer : Result (Unit {0}) ReplayFault
  pub ends : EndsTrace form choice before after old new answer
  pub status : n ≡ answer_status answer
