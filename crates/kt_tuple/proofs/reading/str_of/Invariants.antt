use Rattle.std.proofs.Common.{◌≡◌, ◌++◌, drop, false}
use Rattle.kt_tuple.specs.Reading.{unescaped}
use Rattle.kt_tuple.proofs.reading.str_of.Given as goal

abbrev pub invariant-loop-c : goal.invariant-loop-c
invariant-loop-c l = l.characters.items ++ unescaped l.behind_backslash (drop l.c-index l.c-items) ≡ unescaped false l.c-items
