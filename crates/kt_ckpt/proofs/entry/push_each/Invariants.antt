use Rattle.std.proofs.Common.{◌≡◌, ◌++◌, take}
use Rattle.std.specs.Prelude.{All}
use Rattle.std.specs.List.{flat_map}
use Rattle.kt_ckpt.specs.State.{entry_bytes}
use Rattle.kt_ckpt.proofs.entry.push_each.Given as goal

abbrev pub invariant-loop-entry : goal.invariant-loop-entry
invariant-loop-entry g l = record {
  written : l.out.items ≡ l.fn.out.items ++ flat_map (entry_bytes g.E.Entry.spelled) (take l.entry-index l.entries);
  held : All (λ x. g.E.Entry.is_spelled x.1) (take l.entry-index l.entries);
}
