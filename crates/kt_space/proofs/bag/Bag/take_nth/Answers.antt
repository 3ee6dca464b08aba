use Rattle.std.proofs.Common.{◌≡◌, ℕ, ◌-◌, ◌<◌, ◌&&◌, IsTrue, Option, Some, List, length, set, refl, sym, subst, ap, ◌∙◌, rules}
use Rattle.std.specs.List.{slice_get}
use Rattle.std.specs.Option.{IfSome}
use Rattle.std.proofs.lemmas.Option.{same_Some, slice_get_within, slice_get_read}
use Rattle.kt_tuple.specs.declared.tuple.Tuple.{Tuple}
use Rattle.kt_space.specs.Holding.{Holding}
use Rattle.kt_space.specs.Picking.{matching, without_match}
use Rattle.kt_space.specs.auxiliary.Slots.{IsFound, IsIndexed, filled}
use Rattle.kt_space.proofs.Filled.{found_match, found_others}
use Rattle.kt_space.proofs.Bags.{indexed_without, some_tuple, nothing_found}
use Rattle.kt_space.proofs.bag.Bag.take_nth.Goals as goal

-- the place is the one that was looked for
found : (slots items : List (Option Tuple)) (t : _) (k p : ℕ) (o : Option ℕ) → slots ≡ items → o ≡ Some p → IfSome o (λ p. IsFound slots t k p)
    → IsFound items t k p
found slots items t k p o e is f = subst (λ l. IsFound l t k p) e (subst (λ o. IfSome o (λ p. IsFound slots t k p)) is f)

pub returns-in_err-place-clause-left : goal.returns-in_err-place-clause-left
returns-in_err-place-clause-left c =
    subst (λ (v : Holding). v.tuples ≡ without_match c.args.template.now c.args.number v.tuples) c.self.view_is
    (subst (λ l. filled l ≡ without_match c.args.template.now c.args.number (filled l)) c.deref.ensures.value
    (nothing_found c.deref.result.now c.args.template.now c.args.number c.new.result.left c.new.result.place c.in_err-place.was c.new.ensures.fewer))

pub index_mut-requires : goal.index_mut-requires
index_mut-requires c =
    let h = found c.deref.result.now c.self.inside.slots.items c.args.template.now c.args.number c.in_ok-place.place c.new.result.place c.deref.ensures.value
    c.in_ok-place.was c.new.ensures.found in
    let lt : c.in_ok-place.place < length c.self.inside.slots.items = slice_get_within c.self.inside.slots.items c.in_ok-place.place (Some h.tuple) h.there in
    search (lt, rules)

pub overflow_sub-self : goal.overflow_sub-self
overflow_sub-self c =
    let h = found c.deref.result.now c.self.inside.slots.items c.args.template.now c.args.number c.in_ok-place.place c.new.result.place c.deref.ensures.value
    c.in_ok-place.was c.new.ensures.found in
    some_tuple c.self.inside.slots.items c.self.inside.len c.in_ok-place.place _ _ h.tuple c.self.invariant.indexed h.there

pub invariant_of-self : goal.invariant_of-self
invariant_of-self c =
    let h = found c.deref.result.now c.self.inside.slots.items c.args.template.now c.args.number c.in_ok-place.place c.new.result.place c.deref.ensures.value
    c.in_ok-place.was c.new.ensures.found in
    record {
      indexed = subst (λ s. IsIndexed (set c.self.inside.slots.items c.in_ok-place.place s) (c.self.inside.len - 1) c.remove.new.self.by_kinds.keys
          c.remove.new.self.by_first.keys) (sym c.take-taken.ensures.after)
          (indexed_without c.self.inside.slots.items c.self.inside.len c.in_ok-place.place _ _ _ _ h.tuple c.self.invariant.indexed h.there
          c.remove.ensures.kinds c.remove.ensures.firsts);
      room = λ r. let was = c.self.invariant.room r in (
        was.0,
        subst (λ b. IsTrue (b && c.remove.new.self.by_first.has_room)) (sym c.remove.ensures.kinds_room)
            (subst (λ b. IsTrue (c.self.inside.index.by_kinds.has_room && b)) (sym c.remove.ensures.firsts_room) was.1),
      );
    }

pub returns-clause-taken : goal.returns-clause-taken
returns-clause-taken c =
    let h = found c.deref.result.now c.self.inside.slots.items c.args.template.now c.args.number c.in_ok-place.place c.new.result.place c.deref.ensures.value
    c.in_ok-place.was c.new.ensures.found in
    let lt = slice_get_within c.self.inside.slots.items c.in_ok-place.place (Some h.tuple) h.there in
    c.take-taken.ensures.value
    ∙ same_Some c.index_mut.result.now (Some h.tuple)
    (sym (slice_get_read c.self.inside.slots.items (length c.self.inside.slots.items) c.in_ok-place.place c.index_mut.result.now refl lt
    c.index_mut.ensures.value) ∙ h.there)
    ∙ sym (found_match c.self.inside.slots.items c.args.template.now c.args.number c.in_ok-place.place h)
    ∙ ap (λ (v : Holding). slice_get (matching c.args.template.now v.tuples) c.args.number) c.self.view_is

pub returns-clause-left : goal.returns-clause-left
returns-clause-left c =
    let h = found c.deref.result.now c.self.inside.slots.items c.args.template.now c.args.number c.in_ok-place.place c.new.result.place c.deref.ensures.value
    c.in_ok-place.was c.new.ensures.found in
    ap (λ s. filled (set c.self.inside.slots.items c.in_ok-place.place s)) c.take-taken.ensures.after
    ∙ found_others c.self.inside.slots.items c.args.template.now c.args.number c.in_ok-place.place h
    ∙ ap (λ (v : Holding). without_match c.args.template.now c.args.number v.tuples) c.self.view_is
