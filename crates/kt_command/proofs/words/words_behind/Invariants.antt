use Rattle.std.proofs.Common.{◌≡◌, map, take}
use Rattle.std.specs.Prelude.{string_bytes}
use Rattle.kt_command.specs.Command.{texts}
use Rattle.kt_command.proofs.words.words_behind.Given as goal

abbrev pub invariant-loop-word : goal.invariant-loop-word
invariant-loop-word l = texts l.words.items ≡ map string_bytes (take l.word-index l.behind)
