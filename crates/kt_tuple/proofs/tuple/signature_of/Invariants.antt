use Rattle.std.proofs.Common.{◌≡◌, ◌<◌, ◌^◌, take}
use Rattle.kt_tuple.specs.Signature.{kinds_of, signature_of}
use Rattle.kt_tuple.proofs.tuple.signature_of.Given as goal

abbrev pub invariant-loop-value : goal.invariant-loop-value
invariant-loop-value l =
    (l.signature ≡ signature_of (kinds_of (take l.value-index l.values))) × (l.signature < 5 ^ l.value-index)
