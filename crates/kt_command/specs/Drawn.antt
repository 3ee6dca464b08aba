-- How the drawing of a scenario ends.
-- Cited by drawing.rt, specs/Opened.
use Rattle.std.specs.Prelude.{◌≡◌, ℕ, Result, Ok, Err}
use Rattle.kt_scene.specs.Outside.{Reader, Writer}
use Rattle.kt_look.specs.declared.drawing.Drawing.{Drawing}
use Rattle.kt_look.specs.declared.drawing.DrawFault.{DrawFault}
use Rattle.kt_look.specs.declared.drawing.DrawFault.TheVariants.{TooMany, Replay}
use Rattle.kt_look.specs.Drawing.{EndsDrawing}
use Rattle.kt_command.specs.Status.{status_of}

-- the exit status that tells of what a drawing answers: 2 where too many steps were to be drawn, which other words mend
abbrev pub draw_status : Result (Unit {0}) DrawFault → ℕ
draw_status (Ok done) = 0
draw_status (Err (TooMany steps)) = 2
draw_status (Err (Replay fault)) = status_of fault

-- with 0 where the drawing is written and all steps were made, and else with the status of the fault
pub record EndsDrawn (drawing : Drawing) (before after : Reader) (old new : Writer) (n : ℕ) : Type 0 where
  pub answer : Result (Unit {0}) DrawFault
  pub ends : EndsDrawing drawing before after old new answer
  pub status : n ≡ draw_status answer
