use Rattle.std.proofs.Common.{List, sym, subst, ◌∙◌}
use Rattle.std.specs.Prelude.{IsTrue}
use Rattle.kt_scenario.specs.declared.step.Step.{Step}
use Rattle.kt_core.specs.Store.{StoreValue, store_value}
use Rattle.kt_scene.specs.Runs.{IsStepFault, RunsTo}
use Rattle.kt_scene.specs.declared.fault.ReplayFault.{ReplayFault}
use Rattle.kt_complete.specs.auxiliary.Going.{IsTextStop, of_replay}
use Rattle.kt_complete.proofs.Answered.{same_store}
use Rattle.kt_complete.proofs.Stops.{counts_told, first_refused, goes_told, over_told, stops_told, unstarted}
use Rattle.kt_complete.proofs.completing.begin_and_complete.Goals as goal

pub returns-in-Ok-make_steps-clause-goes : goal.returns-in-Ok-make_steps-clause-goes
returns-in-Ok-make_steps-clause-goes g c =
    let led : IsTrue c.make_steps.new.world.is_honest → RunsTo c.in-Ok.world.state c.args.steps.items c.make_steps.new.world.state = λ h.
    subst (λ (xs : List Step). RunsTo c.in-Ok.world.state xs c.make_steps.new.world.state) c.deref.ensures.value
    (c.in-Ok-make_steps.ensures.made h) in
    goes_told c.args.start (store_value g.S.CkptStore c.args.store) c.args.text.now c.args.scene c.args.steps.items c.in-Ok.world c.make_steps.new.world
    c.requires c.in-Ok.ensures.begins c.make_steps.ensures.honest led (c.in-Ok-make_steps.ensures.counts ∙ c.in-Ok.ensures.counts)
    (λ d. d.world) (λ d. d.steps.items) c.complete.result c.complete.ensures.went

pub returns-in-Ok-make_steps-clause-over : goal.returns-in-Ok-make_steps-clause-over
returns-in-Ok-make_steps-clause-over g c =
    let led : IsTrue c.make_steps.new.world.is_honest → RunsTo c.in-Ok.world.state c.args.steps.items c.make_steps.new.world.state = λ h.
    subst (λ (xs : List Step). RunsTo c.in-Ok.world.state xs c.make_steps.new.world.state) c.deref.ensures.value
    (c.in-Ok-make_steps.ensures.made h) in
    over_told c.args.start (store_value g.S.CkptStore c.args.store) c.args.text.now c.args.scene c.args.steps.items c.in-Ok.world c.make_steps.new.world
    c.requires c.in-Ok.ensures.begins c.make_steps.ensures.honest led (c.in-Ok-make_steps.ensures.counts ∙ c.in-Ok.ensures.counts)
    (λ d. d.world) c.complete.result c.complete.ensures.over

pub returns-in-Ok-make_steps-clause-counts : goal.returns-in-Ok-make_steps-clause-counts
returns-in-Ok-make_steps-clause-counts g c =
    let led : IsTrue c.make_steps.new.world.is_honest → RunsTo c.in-Ok.world.state c.args.steps.items c.make_steps.new.world.state = λ h.
    subst (λ (xs : List Step). RunsTo c.in-Ok.world.state xs c.make_steps.new.world.state) c.deref.ensures.value
    (c.in-Ok-make_steps.ensures.made h) in
    counts_told c.args.start (store_value g.S.CkptStore c.args.store) c.args.text.now c.args.scene c.args.steps.items c.in-Ok.world
    c.make_steps.new.world c.requires c.in-Ok.ensures.begins c.make_steps.ensures.honest led
    (c.in-Ok-make_steps.ensures.counts ∙ c.in-Ok.ensures.counts) (λ d. d.world) c.complete.result c.complete.ensures.over

pub returns-in-Ok-make_steps-clause-fault : goal.returns-in-Ok-make_steps-clause-fault
returns-in-Ok-make_steps-clause-fault g c =
    let led : IsTrue c.make_steps.new.world.is_honest → RunsTo c.in-Ok.world.state c.args.steps.items c.make_steps.new.world.state = λ h.
    subst (λ (xs : List Step). RunsTo c.in-Ok.world.state xs c.make_steps.new.world.state) c.deref.ensures.value
    (c.in-Ok-make_steps.ensures.made h) in
    stops_told c.args.start (store_value g.S.CkptStore c.args.store) c.args.text.now c.args.scene c.args.steps.items c.in-Ok.world
    c.make_steps.new.world c.requires c.in-Ok.ensures.begins c.make_steps.ensures.honest led
    (c.in-Ok-make_steps.ensures.counts ∙ c.in-Ok.ensures.counts) (store_value g.S.CkptStore) c.complete.result c.complete.ensures.stopped

pub returns-in-Err-make_steps-clause-fault : goal.returns-in-Err-make_steps-clause-fault
returns-in-Err-make_steps-clause-fault g c =
    let was = store_value g.S.CkptStore c.args.store in
    let why = subst (λ (xs : List Step). IsStepFault c.in-Ok.world c.make_steps.new.world xs c.in-Err-make_steps.fault) c.deref.ensures.value
    c.in-Err-make_steps.ensures.refused in
    subst (λ (left : StoreValue). IsTextStop c.args.start was left c.args.text.now c.in-Err-make_steps.fault)
    (sym (same_store _ _ _ _ _ _ c.into_store.ensures.content c.into_store.ensures.honest c.into_store.ensures.counts))
    (of_replay (first_refused c.args.start was c.args.text.now c.args.scene c.args.steps.items c.requires c.in-Ok.world c.make_steps.new.world
    c.in-Err-make_steps.fault c.in-Ok.ensures.begins c.in-Ok.ensures.counts c.make_steps.ensures.honest why))

pub returns-in-Err-clause-fault : goal.returns-in-Err-clause-fault
returns-in-Err-clause-fault g c =
    let was = store_value g.S.CkptStore c.args.store in
    subst (λ (f : ReplayFault). IsTextStop c.args.start was (store_value g.S.CkptStore c.in-Err.refused.store) c.args.text.now f) (sym c.from.ensures)
    (of_replay (unstarted c.args.start was c.args.text.now c.args.scene c.args.steps.items c.requires _ c.in-Err.refused.cause c.in-Err.ensures.kind
    c.in-Err.ensures.refused))
