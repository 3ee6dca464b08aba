use Rattle.std.proofs.Common.{◌≡◌, ◌≤◌, ◌+◌, length, drop, false}
use Rattle.kt_tuple.specs.Reading.{unescaped}
use Rattle.kt_tuple.proofs.reading.character_count.Given as goal

abbrev pub invariant-loop-c : goal.invariant-loop-c
invariant-loop-c l = record {
  below : l.count ≤ l.c-index;
  counted : l.count + length (unescaped l.behind_backslash (drop l.c-index l.c-items)) ≡ length (unescaped false l.c-items);
}
