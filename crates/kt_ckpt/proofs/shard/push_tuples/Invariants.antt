use Rattle.std.proofs.Common.{◌≡◌, ◌++◌, take}
use Rattle.std.specs.Prelude.{All}
use Rattle.std.specs.List.{flat_map}
use Rattle.kt_ckpt.specs.Tuple.{IsTuple, tuple_bytes}
use Rattle.kt_ckpt.proofs.shard.push_tuples.Given as goal

abbrev pub invariant-loop-tuple : goal.invariant-loop-tuple
invariant-loop-tuple l = record {
  written : l.out.items ≡ l.fn.out.items ++ flat_map tuple_bytes (take l.tuple-index l.tuples);
  held : All IsTuple (take l.tuple-index l.tuples);
}
