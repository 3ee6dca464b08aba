use Rattle.std.proofs.Common.{◌≡◌, ◌-◌, ◌++◌}
use Rattle.std.specs.Prelude.{map}
use Rattle.kt_text.specs.Work.{unspent}
use Rattle.kt_chaos.specs.Drawing.{drawn_faults}
use Rattle.kt_chaos.proofs.drawing.push_drawn.Given as goal

abbrev pub invariant-loop : goal.invariant-loop
invariant-loop g l =
    l.faults ++ map unspent (drawn_faults (l.count - l.counter) l.scene (g.R.Rng.stream l.rng))
    ≡ l.initial.faults ++ map unspent (drawn_faults l.count l.scene (g.R.Rng.stream l.initial.rng))
