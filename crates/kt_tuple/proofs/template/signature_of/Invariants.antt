use Rattle.std.proofs.Common.{◌≡◌, ◌<◌, ◌^◌, take}
use Rattle.kt_tuple.specs.Signature.{kinds_of_places, signature_of}
use Rattle.kt_tuple.proofs.template.signature_of.Given as goal

abbrev pub invariant-loop-place : goal.invariant-loop-place
invariant-loop-place l =
    (l.signature ≡ signature_of (kinds_of_places (take l.place-index l.places))) × (l.signature < 5 ^ l.place-index)
