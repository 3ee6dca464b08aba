use Rattle.std.proofs.Common.{◌≡◌, ◌∷◌, ◌++◌, take}
use Rattle.std.specs.List.{flat_map}
use Rattle.kt_tuple.specs.Spelling.{character_text}
use Rattle.kt_tuple.proofs.writing.push_string.Given as goal

abbrev pub invariant-loop-character : goal.invariant-loop-character
invariant-loop-character l = l.out.items ≡ l.fn.out.items ++ 34 ∷ flat_map character_text (take l.character-index l.characters)
