use Rattle.std.proofs.Common.{◌≡◌, map, take}
use Rattle.kt_tuple.specs.Spelling.{tuple_text}
use Rattle.kt_scene.specs.auxiliary.Texts.{items_of}
use Rattle.kt_scene.proofs.report.texts_of.Given as goal

abbrev pub invariant-loop-tuple : goal.invariant-loop-tuple
invariant-loop-tuple l = items_of l.texts.items ≡ map tuple_text (take l.tuple-index l.tuples)
