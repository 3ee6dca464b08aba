use Rattle.std.proofs.Common.{◌≡◌, ℕ, ◌+◌, Option, None, Some, [], ◌∷◌, ◌++◌, List, map, take, length, add-one, refl, sym, ap, ◌∙◌}
use Rattle.std.specs.List.{slice_get}
use Rattle.std.proofs.lemmas.Option.{slice_get_read}
use Rattle.kt_tuple.specs.declared.tuple.Tuple.{Tuple}
use Rattle.kt_space.specs.declared.index.Index.{Index}
use Rattle.kt_space.specs.declared.key.Key.{Key}
use Rattle.kt_space.specs.auxiliary.Grouping.{kinds_key, first_key}
use Rattle.kt_space.specs.auxiliary.Slots.{filled}
use Rattle.kt_space.proofs.Filled.{filled_some, filled_none}
use Rattle.kt_space.proofs.index.Index.of.Goals as goal
use Rattle.kt_space.proofs.index.Index.of.Goals.{in-Some+in_ok-reserve, in_default}

map_more : (key : Tuple → Key) (us : List Tuple) (u : Tuple) → map (λ u. Some (key u)) (us ++ u ∷ []) ≡ map (λ u. Some (key u)) us ++ Some (key u) ∷ []
map_more key [] u = refl
map_more key (x ∷ us) u = ap (λ l. Some (key x) ∷ l) (map_more key us u)

more : (key : Tuple → Key) (slots : List (Option Tuple)) (i : ℕ) (u : Tuple) (old now : List (Option Key)) → slice_get slots i ≡ Some (Some u)
    → now ≡ old ++ Some (key u) ∷ [] → old ≡ map (λ u. Some (key u)) (filled (take i slots)) → now ≡ map (λ u. Some (key u)) (filled (take (i + 1) slots))
more key slots i u old now at is was =
    is ∙ ap (λ l. l ++ Some (key u) ∷ []) was ∙ sym (map_more key (filled (take i slots)) u)
    ∙ ap (map (λ u. Some (key u))) (sym (filled_some slots i u at)) ∙ ap (λ n. map (λ u. Some (key u)) (filled (take n slots))) (sym (add-one i))

same : (key : Tuple → Key) (slots : List (Option Tuple)) (i : ℕ) (old : List (Option Key)) → slice_get slots i ≡ Some None
    → old ≡ map (λ u. Some (key u)) (filled (take i slots)) → old ≡ map (λ u. Some (key u)) (filled (take (i + 1) slots))
same key slots i old at was =
    was ∙ ap (map (λ u. Some (key u))) (sym (filled_none slots i at)) ∙ ap (λ n. map (λ u. Some (key u)) (filled (take n slots))) (sym (add-one i))

pub loop-slot-preserved : goal.loop-slot-preserved
loop-slot-preserved c =
    let read : slice_get c.args.slots.now c.loop-slot.slot-index ≡ Some c.slot-item.result =
    slice_get_read c.args.slots.now (length c.args.slots.now) c.loop-slot.slot-index c.slot-item.result refl c.loop-slot-test.true c.slot-item.is in
    elim c.match-slot.branch [
      | in-Some+in_ok-reserve w ↦
          let at : slice_get c.args.slots.now c.loop-slot.slot-index ≡ Some (Some w.in-Some.tuple) = read ∙ ap Some w.in-Some.is in
          record {
            kinds = ap (λ (i : Index). i.by_kinds.keys) w.index-is
                ∙ more kinds_key c.args.slots.now c.loop-slot.slot-index w.in-Some.tuple w.reserve.new.self.by_kinds.keys w.push.new.self.by_kinds.keys at
                w.push.ensures.kinds
                (w.in_ok-reserve.ensures.kinds ∙ c.loop-slot.invariant.kinds);
            firsts = ap (λ (i : Index). i.by_first.keys) w.index-is
                ∙ more first_key c.args.slots.now c.loop-slot.slot-index w.in-Some.tuple w.reserve.new.self.by_first.keys w.push.new.self.by_first.keys at
                w.push.ensures.firsts
                (w.in_ok-reserve.ensures.firsts ∙ c.loop-slot.invariant.firsts);
          }
      | in_default w ↦
          let at : slice_get c.args.slots.now c.loop-slot.slot-index ≡ Some None = read ∙ ap Some w.in_default.is in
          record {
            kinds = ap (λ (i : Index). i.by_kinds.keys) w.index-is ∙ same kinds_key c.args.slots.now c.loop-slot.slot-index c.loop-slot.index.by_kinds.keys
                at c.loop-slot.invariant.kinds;
            firsts = ap (λ (i : Index). i.by_first.keys) w.index-is ∙ same first_key c.args.slots.now c.loop-slot.slot-index c.loop-slot.index.by_first.keys
                at c.loop-slot.invariant.firsts;
          }
    ]
