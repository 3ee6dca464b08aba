use Rattle.std.proofs.Common.{◌≡◌, ◌++◌, take}
use Rattle.std.specs.List.{flat_map}
use Rattle.kt_page.specs.auxiliary.Json.{character_json}
use Rattle.kt_page.proofs.json.push_string.Given as goal

abbrev pub invariant-loop-character : goal.invariant-loop-character
invariant-loop-character l = l.out.items ≡ l.initial.out.items ++ flat_map character_json (take l.character-index l.text)
