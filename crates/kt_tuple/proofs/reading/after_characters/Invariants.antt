use Rattle.std.proofs.Common.{◌≡◌, drop, false}
use Rattle.kt_tuple.specs.Reading.{after_characters}
use Rattle.kt_tuple.proofs.reading.after_characters.Given as goal

abbrev pub invariant-loop-i : goal.invariant-loop-i
invariant-loop-i l = after_characters l.behind_backslash (drop l.i l.text) ≡ after_characters false l.text
