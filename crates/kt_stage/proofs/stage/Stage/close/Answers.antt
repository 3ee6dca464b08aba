-- Of `Stage::close` in src/closing.rt.
use Rattle.std.proofs.Common.{ap, ◌∙◌}
use Rattle.kt_stage.specs.auxiliary.Midway.{IsClosed}
use Rattle.kt_stage.specs.Journal.{Journal}
use Rattle.kt_stage.specs.Order.{nodes_of}
use Rattle.kt_stage.proofs.Seats.{closed-of, each-step, kept, one-each}
use Rattle.kt_stage.proofs.stage.Stage.close.Goals as goal

pub returns-in-None-clause-kept : goal.returns-in-None-clause-kept
returns-in-None-clause-kept g c =
    let closed : IsClosed (nodes_of g.L.Naming.opening.state.scene) c.into_inner.result.locked.journal.steps c.args.seats.items =
    closed-of _ _ _ _ _ _ (c.deref.ensures.value ∙ c.args.self.all)
    (c.deref-3.ensures.value ∙ ap (λ (j : Journal). j.steps) c.journal.view_is) c.deref-2.ensures.value c.in-None.ensures in
    kept c.into_inner.result.locked.journal.steps c.args.seats.items closed.0

pub returns-in-None-clause-one_each : goal.returns-in-None-clause-one_each
returns-in-None-clause-one_each g c =
    let closed : IsClosed (nodes_of g.L.Naming.opening.state.scene) c.into_inner.result.locked.journal.steps c.args.seats.items =
    closed-of _ _ _ _ _ _ (c.deref.ensures.value ∙ c.args.self.all)
    (c.deref-3.ensures.value ∙ ap (λ (j : Journal). j.steps) c.journal.view_is) c.deref-2.ensures.value c.in-None.ensures in
    one-each c.into_inner.result.locked.journal.steps c.args.seats.items (nodes_of g.L.Naming.opening.state.scene) closed.0 closed.1

pub returns-in-None-clause-each_step : goal.returns-in-None-clause-each_step
returns-in-None-clause-each_step g c =
    let closed : IsClosed (nodes_of g.L.Naming.opening.state.scene) c.into_inner.result.locked.journal.steps c.args.seats.items =
    closed-of _ _ _ _ _ _ (c.deref.ensures.value ∙ c.args.self.all)
    (c.deref-3.ensures.value ∙ ap (λ (j : Journal). j.steps) c.journal.view_is) c.deref-2.ensures.value c.in-None.ensures in
    each-step g.L.Naming.opening.state.scene c.into_inner.result.locked.journal.steps c.args.seats.items c.into_inner.result.locked.owned closed
