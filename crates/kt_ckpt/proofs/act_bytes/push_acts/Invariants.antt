use Rattle.std.proofs.Common.{◌≡◌, ◌++◌, map, take}
use Rattle.std.specs.Prelude.{All}
use Rattle.std.specs.List.{flat_map}
use Rattle.kt_ckpt.specs.Acts.{IsSpelledAct, act_bytes}
use Rattle.kt_ckpt.proofs.act_bytes.push_acts.Given as goal

abbrev pub invariant-loop-act : goal.invariant-loop-act
invariant-loop-act l = record {
  written : l.out.items ≡ l.fn.out.items ++ flat_map act_bytes (take l.act-index (map (λ a. a.now) l.acts));
  held : All IsSpelledAct (take l.act-index (map (λ a. a.now) l.acts));
}
