use Rattle.std.proofs.Common.{ap, subst, sym, ◌∙◌}
use Rattle.std.proofs.lemmas.Result.{IfOk-weaker}
use Rattle.kt_history.specs.Run.{IsRun}
use Rattle.kt_history.specs.Survival.{services, lost_count}
use Rattle.kt_tuple.specs.Space.{IsSpaceRun}
use Rattle.kt_scene.proofs.Reports.{reported}
use Rattle.kt_scene.proofs.report.report_of.Goals as goal

pub returns-in-Ok : goal.returns-in-Ok
returns-in-Ok g c =
    let notes = c.history-history.ensures.value in
    let found = c.in_ok-survivors.ensures.services ∙ ap services notes in
    let leads = subst (λ l. IsRun l → IsSpaceRun l c.in-Ok.space.tuples) (c.deref.ensures.value ∙ sym c.deref-in-Ok.ensures.value) c.in-Ok.ensures in
    IfOk-weaker c.report_with-text.result _ _ (λ text appended.
    reported c.args.world.now.is_honest c.args.world.now.state.history c.args.permanent.now c.in-Ok.space.tuples c.deref-in-Ok.result.now
    c.lost_count-lost.result text.items
    (c.deref-in-Ok.ensures.value ∙ found) (c.lost_count-lost.ensures.count ∙ ap lost_count notes)
    (λ honest. let held = c.history-history.ensures.headline honest in (held.survivors.tuples, held.survivors.one_run)) leads appended)
    c.report_with-text.ensures
