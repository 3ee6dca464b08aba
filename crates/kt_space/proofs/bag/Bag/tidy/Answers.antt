use Rattle.std.proofs.Common.{Some, map, ap, ◌∙◌}
use Rattle.std.proofs.lemmas.Bool.{false≢true}
use Rattle.kt_space.specs.auxiliary.Grouping.{kinds_key, first_key}
use Rattle.kt_space.specs.Holding.{Holding}
use Rattle.kt_space.specs.auxiliary.Slots.{filled}
use Rattle.kt_space.proofs.Bags.{indexed_tidied, tidied_filled}
use Rattle.kt_space.proofs.bag.Bag.tidy.Goals as goal

pub invariant_of-self : goal.invariant_of-self
invariant_of-self c = record {
  indexed = indexed_tidied c.self.inside.slots.items c.drop_empty.new.slots.items c.self.inside.len _ _ _ _ c.self.invariant.indexed c.drop_empty.ensures
      (c.in_ok-index.ensures.kinds ∙ ap (λ l. map (λ u. Some (kinds_key u)) (filled l)) c.deref.ensures.value)
      (c.in_ok-index.ensures.firsts ∙ ap (λ l. map (λ u. Some (first_key u)) (filled l)) c.deref.ensures.value);
  room = λ h. absurd (false≢true h);
}

pub returns-clause-tuples : goal.returns-clause-tuples
returns-clause-tuples c = tidied_filled c.self.inside.slots.items c.drop_empty.new.slots.items c.drop_empty.ensures
    ∙ ap (λ (v : Holding). v.tuples) c.self.view_is
