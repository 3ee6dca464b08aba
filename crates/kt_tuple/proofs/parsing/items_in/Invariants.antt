use Rattle.std.proofs.Common.{◌≡◌, ◌-◌, ◌++◌}
use Rattle.kt_tuple.specs.declared.tuple.TheConstants.{MAX_PLACES}
use Rattle.kt_tuple.specs.auxiliary.Making.{made_from, made_in}
use Rattle.kt_tuple.proofs.parsing.items_in.Given as goal

abbrev pub invariant-loop : goal.invariant-loop
invariant-loop g l =
    l.items.items ++ made_from g.I.Item.reader g.I.Item.of_spelling (MAX_PLACES - l.counter) l.rest ≡ made_in g.I.Item.reader g.I.Item.of_spelling
    l.text
