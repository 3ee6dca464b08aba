-- What the steps of a scenario answer is what its replay answers.
-- Cited by `replaying::report_returning_store`, `replaying::world_or_store`.
use Rattle.std.proofs.Common.{◌≡◌, ◌≢◌, List, ℕ, Result, Ok, Err, subst}
use Rattle.std.specs.Prelude.{IfErr}
use Rattle.kt_core.specs.Store.{StoreValue}
use Rattle.kt_core.specs.declared.start.Start.{Start}
use Rattle.kt_scene.specs.declared.fault.ReplayFault.{ReplayFault}
use Rattle.kt_scene.specs.declared.fault.ReplayFault.TheVariants as faults
use Rattle.kt_scene.specs.Outside.{Reader}
use Rattle.kt_scene.specs.Stream.{IsAllRead, IsReadFault}
use Rattle.kt_scene.specs.Run.{IsTextFault, IsWorldFault, of_reading, of_text}

-- what the text that was read answers comes before the report
pub told_over : {S X : Type 0} (start : Start) (value : S → StoreValue) (was : StoreValue) (before after : Reader)
    (text held : List ℕ) (r : Result X (ReplayFault × S)) → IsAllRead before after text → held ≡ text
    → IfErr r (λ e. IsTextFault start was (value e.1) held e.0)
    → IfErr r (λ e. IsWorldFault start was (value e.1) before after e.0)
told_over start value was before after text held (Ok s) read same f = tt
told_over start value was before after text held (Err e) read same f =
    let P : List ℕ → Type 0 = λ t. IsTextFault start was (value e.1) t e.0 in
    of_text text read (subst P same f)

-- no fault before the report is the writer's
pub not_the_writers : (start : Start) (was left : StoreValue) (before after : Reader) (fault : ReplayFault)
    → IsWorldFault start was left before after fault → fault ≢ faults.Write
not_the_writers start was left before after fault (of_reading is same) e =
    let P : ReplayFault → Type 0 = λ f. IsReadFault before after f in
    subst P e is
not_the_writers start was left before after fault (of_text text read is) e =
    let P : ReplayFault → Type 0 = λ f. IsTextFault start was left text f in
    subst P e is
