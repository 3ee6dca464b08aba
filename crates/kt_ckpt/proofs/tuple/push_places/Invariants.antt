use Rattle.std.proofs.Common.{◌≡◌, ◌++◌, take}
use Rattle.std.specs.Prelude.{All}
use Rattle.std.specs.List.{flat_map}
use Rattle.kt_tuple.specs.Valid.{IsPlace}
use Rattle.kt_ckpt.specs.Value.{place_bytes}
use Rattle.kt_ckpt.proofs.tuple.push_places.Given as goal

abbrev pub invariant-loop-place : goal.invariant-loop-place
invariant-loop-place l = record {
  written : l.out.items ≡ l.fn.out.items ++ flat_map place_bytes (take l.place-index l.places);
  held : All IsPlace (take l.place-index l.places);
}
