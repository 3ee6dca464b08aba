-- Of `space` in src/main.rt.
use Rattle.std.proofs.Common.{sym, ap, subst, ◌∙◌}
use Rattle.std.specs.Prelude.{List, IfOk}
use Rattle.kt_tuple.specs.declared.service.Service.{Service}
use Rattle.kt_tuple.specs.Space.{IsSpaceRun}
use Rattle.kt_history.specs.Survival.{services}
use Rattle.kt_history.specs.Run.{IsRun}
use Rattle.kt_example.proofs.space.Goals as goal

-- the survivors are one run, by the headline; so `space_of` says what the bag holds
pub returns : goal.returns
returns c =
    let found = c.deref.ensures.value ∙ (c.in_ok-survivors.ensures.services ∙ ap services c.history.ensures.value) in
    let held = c.history.ensures.headline c.requires in
    let Leads : List Service → Type 0 = λ all. IfOk c.space_of.result (λ bag. IsSpaceRun all bag.tuples) in
    record { one_run = subst Leads found (c.space_of.ensures (subst IsRun (sym found) (held.survivors.tuples, held.survivors.one_run))) }
