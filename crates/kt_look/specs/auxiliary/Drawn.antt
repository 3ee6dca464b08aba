-- How the drawing of a text ends, once that is read.
-- Cited by Drawings, drawing.rt, `drawing::write_drawn`.
use Rattle.std.specs.Prelude.{◌≡◌, ℕ, List, Result, Err}
use Rattle.kt_scene.specs.Outside.{Writer}
use Rattle.kt_scene.specs.Stream.{WritesAll, WritesFront}
use Rattle.kt_scene.specs.declared.fault.ReplayFault.TheVariants as faults
use Rattle.kt_look.specs.declared.drawing.Drawing.{Drawing}
use Rattle.kt_look.specs.declared.drawing.DrawFault.{DrawFault}
use Rattle.kt_look.specs.declared.drawing.DrawFault.TheVariants.{Replay}
use Rattle.kt_look.specs.Drawing.{IsDrawn, IsUndrawn}

-- what is drawn is written, and the answer is how the steps ended; or a front of it is
pub data EndsPutting (bytes : List ℕ) (end : Result (Unit {0}) DrawFault) (old new : Writer)
    : Result (Unit {0}) DrawFault → Type 0 where
  all_put : WritesAll old new bytes → EndsPutting bytes end old new end
  front_put : WritesFront old new bytes → EndsPutting bytes end old new (Err (Replay faults.Write))

-- the same of a text that was read; or nothing is written, because of the text
pub data EndsDrawn (drawing : Drawing) (text : List ℕ) (old new : Writer)
    : Result (Unit {0}) DrawFault → Type 0 where
  is_drawn : {answer : Result (Unit {0}) DrawFault} (bytes : List ℕ) → IsDrawn drawing text bytes answer
      → WritesAll old new bytes → EndsDrawn drawing text old new answer
  is_cut_off : {end : Result (Unit {0}) DrawFault} (bytes : List ℕ) → IsDrawn drawing text bytes end
      → WritesFront old new bytes → EndsDrawn drawing text old new (Err (Replay faults.Write))
  is_undrawn : (fault : DrawFault) → IsUndrawn drawing text fault → new ≡ old
      → EndsDrawn drawing text old new (Err fault)
