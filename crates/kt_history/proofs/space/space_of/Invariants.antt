use Rattle.std.proofs.Common.{List, [], take, drop}
use Rattle.kt_tuple.specs.declared.tuple.Tuple.{Tuple}
use Rattle.kt_tuple.specs.Space.{RunsFrom}
use Rattle.kt_history.specs.Run.{IsRun}
use Rattle.kt_history.proofs.space.space_of.Given as goal

abbrev pub invariant-loop-service : goal.invariant-loop-service
invariant-loop-service l =
    IsRun l.services → RunsFrom [] (take l.service-index l.services) l.bag.tuples
    × ((tuples : List Tuple) × RunsFrom l.bag.tuples (drop l.service-index l.services) tuples)
