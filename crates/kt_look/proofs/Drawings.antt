-- The drawing of what a text spells.
-- Cited by `drawing::put_drawn`, `drawing::write_drawing`, `drawing::write_drawn`.
use Rattle.std.proofs.Common.{◌≡◌, ℕ, List, Result, Err, sym, subst}
use Rattle.kt_scene.specs.Outside.{Reader, Writer}
use Rattle.kt_scene.specs.Stream.{IsAllRead, WritesAll, WritesFront}
use Rattle.kt_scene.specs.declared.fault.ReplayFault.{ReplayFault}
use Rattle.kt_scene.specs.declared.fault.ReplayFault.TheVariants as faults
use Rattle.kt_look.specs.declared.drawing.Drawing.{Drawing}
use Rattle.kt_look.specs.declared.drawing.DrawFault.{DrawFault}
use Rattle.kt_look.specs.declared.drawing.DrawFault.TheVariants.{Replay}
use Rattle.kt_look.specs.Drawing.{EndsDrawing, IsDrawn, drawn, undrawn, unwritten}
use Rattle.kt_look.specs.auxiliary.Drawn.{EndsDrawn, EndsPutting, all_put, front_put, is_cut_off, is_drawn, is_undrawn}

-- what is drawn is written
pub putting_done : (picture bytes : List ℕ) (end answer : Result (Unit {0}) DrawFault) (old new : Writer) → bytes ≡ picture → answer ≡ end
    → WritesAll old new bytes → EndsPutting picture end old new answer
putting_done picture bytes end answer old new is ended all =
    subst (λ (a : Result (Unit {0}) DrawFault). EndsPutting picture end old new a) (sym ended) (all_put (subst (WritesAll old new) is all))

-- or a front of it
pub putting_failed : (picture bytes : List ℕ) (end : Result (Unit {0}) DrawFault) (old new : Writer) (fault : ReplayFault) → bytes ≡ picture
    → fault ≡ faults.Write → WritesFront old new bytes → EndsPutting picture end old new (Err (Replay fault))
putting_failed picture bytes end old new fault is failed front =
    subst (λ (f : ReplayFault). EndsPutting picture end old new (Err (Replay f))) (sym failed) (front_put (subst (WritesFront old new) is front))

-- the text is drawn so, and that is written
pub ends_drawn : (drawing : Drawing) (text picture : List ℕ) (end : Result (Unit {0}) DrawFault) (old new : Writer)
    {answer : Result (Unit {0}) DrawFault} → IsDrawn drawing text picture end → EndsPutting picture end old new answer
    → EndsDrawn drawing text old new answer
ends_drawn drawing text picture end old new is (all_put all) = is_drawn picture is all
ends_drawn drawing text picture end old new is (front_put front) = is_cut_off picture is front

-- the text was read, and is drawn so
ends_drawing : (drawing : Drawing) (before after : Reader) (text : List ℕ) (old new : Writer) {answer : Result (Unit {0}) DrawFault}
    → IsAllRead before after text → EndsDrawn drawing text old new answer → EndsDrawing drawing before after old new answer
ends_drawing drawing before after text old new read (is_drawn picture is all) = drawn text picture read is all
ends_drawing drawing before after text old new read (is_cut_off picture is front) = unwritten text picture read is front
ends_drawing drawing before after text old new read (is_undrawn fault is same) = undrawn text fault read is same

-- the same where the text is read by another name
pub ends_drawing_as : (drawing : Drawing) (before after : Reader) (text same : List ℕ) (old new : Writer) (answer : Result (Unit {0}) DrawFault)
    → same ≡ text → IsAllRead before after text → EndsDrawn drawing same old new answer → EndsDrawing drawing before after old new answer
ends_drawing_as drawing before after text same old new answer is read ends =
    ends_drawing drawing before after text old new read (subst (λ (t : List ℕ). EndsDrawn drawing t old new answer) is ends)
