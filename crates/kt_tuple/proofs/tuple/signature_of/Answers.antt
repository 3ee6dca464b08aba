use Rattle.std.proofs.Common.{◌≤◌, arith}
use Rattle.std.proofs.Math.Nat.{pow-le-pow_right}
use Rattle.kt_tuple.specs.declared.tuple.TheConstants.{MAX_PLACES}
use Rattle.kt_tuple.proofs.tuple.signature_of.Goals as goal

pub then-signature-requires : goal.then-signature-requires
then-signature-requires c =
    let few : c.loop-value.value-index ≤ MAX_PLACES = omega (arith, c.requires.1) in
    let small = pow-le-pow_right {n = 5} (omega arith) few in
    omega (arith, small, c.loop-value.invariant.1)
