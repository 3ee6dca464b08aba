use Rattle.std.proofs.Common.{ap, arith, ◌∙◌}
use Rattle.std.specs.Prelude.{Err}
use Rattle.kt_tuple.specs.declared.node.NodeId.TheVariants.{Worker}
use Rattle.kt_scenario.specs.declared.step.Step.TheVariants.{Issue}
use Rattle.kt_core.specs.Stepping.{step_counted}
use Rattle.kt_scene.proofs.Runs.{made_next, refused_next}
use Rattle.kt_scene.proofs.replaying.make_steps.Goals as goal

pub returns-in-Err-clause-refused : goal.returns-in-Err-clause-refused
returns-in-Err-clause-refused g c = record {
  refused = λ honest.
      refused_next c.args.world.now.state c.args.steps.now c.loop-i.i c.loop-i.world.state (Issue (Worker 0)) c.in-Err.cause
      c.step.new.self.is_honest c.step.new.self.state (omega arith)
      (c.loop-i.invariant.made (c.in-Err.ensures.honest honest)) (c.in-Err.ensures.refusal honest) (c.in-Err.ensures.called honest)
      honest c.in-Err.ensures.cause (c.in-Err.ensures.same honest);
  counts = c.in-Err.ensures.counts ∙ ap (step_counted {T = Unit {0}} (Err c.in-Err.cause)) c.loop-i.invariant.counts;
}

pub loop-i-preserved : goal.loop-i-preserved
loop-i-preserved g c = record {
  honest = λ honest. c.loop-i.invariant.honest (c.in_default.ensures.honest honest);
  made = λ honest. made_next c.args.world.now.state c.args.steps.now c.loop-i.i c.loop-i.world.state (Issue (Worker 0)) c.step.new.self.state (omega arith)
      (c.loop-i.invariant.made (c.in_default.ensures.honest honest)) (c.in_default.ensures.effect honest);
  counts = c.in_default.ensures.counts ∙ c.loop-i.invariant.counts;
}
