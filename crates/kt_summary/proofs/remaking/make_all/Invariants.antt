use Rattle.std.specs.Prelude.{IsTrue}
use Rattle.kt_summary.proofs.Making.{MadeUpTo}
use Rattle.kt_summary.proofs.remaking.make_all.Given as goal

abbrev pub invariant-loop-place : goal.invariant-loop-place
invariant-loop-place l = record {
  honest : IsTrue l.world.is_honest;
  made : MadeUpTo l.initial.world.state l.steps l.place l.world.state l.makers.items;
}
