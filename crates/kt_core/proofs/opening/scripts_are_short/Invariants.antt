use Rattle.std.proofs.Common.{ℕ, ◌<◌}
use Rattle.std.specs.Prelude.{IfSome, slice_get}
use Rattle.kt_model.specs.Short.{IsShort}
use Rattle.kt_core.proofs.opening.scripts_are_short.Given as goal

-- the scripts so far
abbrev pub invariant-loop-script : goal.invariant-loop-script
invariant-loop-script l = (n : ℕ) → n < l.script-index → IfSome (slice_get l.scripts n) IsShort
