use Rattle.std.proofs.Common.{◌≡◌, ◌-◌, length}
use Rattle.kt_tuple.specs.Parsing.{places_from}
use Rattle.kt_tuple.specs.auxiliary.Findings.{found_with, found_in}
use Rattle.kt_tuple.proofs.parsing.found_in.Given as goal

abbrev pub invariant-loop-i : goal.invariant-loop-i
invariant-loop-i g l =
    found_with l.text l.found l.i (places_from g.I.Item.reader (length l.text - l.i) l.rest) ≡ found_in g.I.Item.reader l.text
