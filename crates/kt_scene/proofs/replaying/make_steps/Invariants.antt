use Rattle.std.proofs.Common.{take, ◌≡◌}
use Rattle.std.specs.Prelude.{IsTrue}
use Rattle.kt_scene.specs.Runs.{RunsTo}
use Rattle.kt_scene.proofs.replaying.make_steps.Given as goal

abbrev pub invariant-loop-i : goal.invariant-loop-i
invariant-loop-i g l = record {
  honest : IsTrue l.world.is_honest → IsTrue l.initial.world.is_honest;
  counts : l.world.counts ≡ l.initial.world.counts;
  made : IsTrue l.world.is_honest → RunsTo l.initial.world.state (take l.i l.steps) l.world.state;
}
