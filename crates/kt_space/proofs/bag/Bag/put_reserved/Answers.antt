use Rattle.std.proofs.Common.{◌≤◌, ◌+◌, [], ◌∷◌, ◌++◌, IsTrue, sym, subst, ap, ◌∙◌, arith, rules}
use Rattle.std.proofs.Math.Facts.{Fits-le}
use Rattle.std.proofs.lemmas.Bool.{false≢true}
use Rattle.kt_space.specs.Holding.{Holding}
use Rattle.kt_space.specs.auxiliary.Slots.{filled}
use Rattle.kt_space.proofs.Filled.{filled_pushed, filled_at_most}
use Rattle.kt_space.proofs.Bags.{indexed_pushed}
use Rattle.kt_space.proofs.bag.Bag.put_reserved.Goals as goal

pub overflow_add-self : goal.overflow_add-self
overflow_add-self c =
    let few = filled_at_most c.self.inside.slots.items in
    let counted = c.self.invariant.indexed.counted in
    let room = (c.self.invariant.room (subst (λ (v : Holding). IsTrue v.has_room) (sym c.self.view_is) c.requires)).0 in
    let le : c.self.inside.len + 1 ≤ c.capacity-most.result = omega (arith, few, counted, room, c.capacity-most.ensures) in
    Fits-le le (search rules)

pub invariant_of-self : goal.invariant_of-self
invariant_of-self c = record {
  indexed = indexed_pushed c.self.inside.slots.items c.push_reserved.new.self.items c.self.inside.len _ _ _ _ c.args.tuple c.self.invariant.indexed
      c.push_reserved.ensures.items c.push.ensures.kinds c.push.ensures.firsts;
  room = λ h. absurd (false≢true h);
}

pub returns : goal.returns
returns c =
    ap filled c.push_reserved.ensures.items ∙ filled_pushed c.self.inside.slots.items c.args.tuple
    ∙ ap (λ (v : Holding). v.tuples ++ c.args.tuple ∷ []) c.self.view_is
