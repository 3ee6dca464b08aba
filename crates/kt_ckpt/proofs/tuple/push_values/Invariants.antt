use Rattle.std.proofs.Common.{◌≡◌, ◌++◌, take}
use Rattle.std.specs.Prelude.{All}
use Rattle.std.specs.List.{flat_map}
use Rattle.kt_tuple.specs.Valid.{IsValue}
use Rattle.kt_ckpt.specs.Value.{value_bytes}
use Rattle.kt_ckpt.proofs.tuple.push_values.Given as goal

abbrev pub invariant-loop-value : goal.invariant-loop-value
invariant-loop-value l = record {
  written : l.out.items ≡ l.fn.out.items ++ flat_map value_bytes (take l.value-index l.values);
  held : All IsValue (take l.value-index l.values);
}
