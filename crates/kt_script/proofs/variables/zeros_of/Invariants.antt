use Rattle.std.proofs.Common.{◌≡◌, map}
use Rattle.kt_script.specs.Memory.{zeros_of}
use Rattle.kt_script.proofs.variables.zeros_of.Given as goal

abbrev pub invariant-loop-kind : goal.invariant-loop-kind
invariant-loop-kind l = l.zeros.items ≡ zeros_of (map (λ p. (p.0.now, p.1.now)) l.yielded)
