-- Of `go_on` in src/main.rt.
use Rattle.std.specs.Prelude.{IsTrue}
use Rattle.kt_example.proofs.go_on.Given as goal

abbrev pub invariant-loop-worker : goal.invariant-loop-worker
invariant-loop-worker l = IsTrue l.fn.world.is_honest → IsTrue l.world.is_honest

abbrev pub invariant-loop : goal.invariant-loop
invariant-loop l = IsTrue l.fn.world.is_honest → IsTrue l.world.is_honest
