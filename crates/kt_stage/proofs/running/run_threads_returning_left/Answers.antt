use Rattle.std.proofs.Common.{sym, ◌∙◌}
use Rattle.kt_core.specs.Store.{store_value}
use Rattle.kt_stage.proofs.Ended.{left-over, made-from-start, still-finished, still-left}
use Rattle.kt_stage.proofs.running.run_threads_returning_left.Goals as goal

pub returns-in-None-clause-replays : goal.returns-in-None-clause-replays
returns-in-None-clause-replays g c =
    made-from-start c.args.start (g.S.CkptStore.content c.args.store) c.args.scene c.in-Ok.world c.in-Ok-run_on.journal.world c.unfinished.new.journal.world
    c.in-Ok-run_on.journal.steps
    c.unfinished.new.journal.steps c.in-Ok.ensures.begins
    c.in-Ok-run_on.ensures.replays c.unfinished.ensures.steps c.unfinished.ensures.found.honest c.unfinished.ensures.found.same

pub returns-in-None-clause-finished : goal.returns-in-None-clause-finished
returns-in-None-clause-finished g c = λ h.
    still-finished c.in-Ok-run_on.journal.world c.unfinished.new.journal.world c.args.faults c.in-Ok-run_on.journal.steps c.unfinished.new.journal.steps
    (sym c.in-None.is ∙ c.in-Ok-unfinished.ensures.found.value h) c.unfinished.ensures.steps (c.unfinished.ensures.found.same h)

pub returns-clause-stopped : goal.returns-clause-stopped
returns-clause-stopped g c =
    left-over c.args.start (store_value g.S.CkptStore c.args.store) c.args.scene c.args.faults c.in-Some.node c.unfinished.new.journal
    (made-from-start c.args.start (g.S.CkptStore.content c.args.store) c.args.scene c.in-Ok.world c.in-Ok-run_on.journal.world c.unfinished.new.journal.world
    c.in-Ok-run_on.journal.steps
    c.unfinished.new.journal.steps c.in-Ok.ensures.begins
    c.in-Ok-run_on.ensures.replays c.unfinished.ensures.steps c.unfinished.ensures.found.honest c.unfinished.ensures.found.same)
    (λ h. still-left c.in-Ok-run_on.journal.world c.unfinished.new.journal.world c.args.faults c.in-Ok-run_on.journal.steps
    c.unfinished.new.journal.steps c.in-Some.node (sym c.in-Some.is ∙ c.in-Ok-unfinished.ensures.found.value h)
    c.unfinished.ensures.steps (c.unfinished.ensures.found.same h))

pub returns-clause-left : goal.returns-clause-left
returns-clause-left g c = record {
  made =
      made-from-start c.args.start (g.S.CkptStore.content c.args.store) c.args.scene c.in-Ok.world c.in-Ok-run_on.journal.world c.unfinished.new.journal.world
      c.in-Ok-run_on.journal.steps
      c.unfinished.new.journal.steps c.in-Ok.ensures.begins
      c.in-Ok-run_on.ensures.replays c.unfinished.ensures.steps c.unfinished.ensures.found.honest c.unfinished.ensures.found.same;
  shown = λ h.
      still-left c.in-Ok-run_on.journal.world c.unfinished.new.journal.world c.args.faults c.in-Ok-run_on.journal.steps
      c.unfinished.new.journal.steps c.in-Some.node (sym c.in-Some.is ∙ c.in-Ok-unfinished.ensures.found.value h)
      c.unfinished.ensures.steps (c.unfinished.ensures.found.same h);
}
