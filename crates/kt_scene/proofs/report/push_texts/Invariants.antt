use Rattle.std.proofs.Common.{◌≡◌, ◌++◌, take}
use Rattle.std.specs.List.{flat_map}
use Rattle.kt_text.specs.Text.{text_line}
use Rattle.kt_scene.specs.auxiliary.Texts.{items_of}
use Rattle.kt_scene.proofs.report.push_texts.Given as goal

abbrev pub invariant-loop-text : goal.invariant-loop-text
invariant-loop-text l = l.out.items ≡ l.initial.out.items ++ flat_map text_line (items_of (take l.text-index l.texts))
