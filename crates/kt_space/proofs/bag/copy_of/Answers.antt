use Rattle.std.proofs.Common.{◌≡◌, Some, [], ◌∷◌, ◌++◌, take, length, add-one, refl, sym, ap, ◌∙◌}
use Rattle.std.specs.List.{slice_get}
use Rattle.std.proofs.lemmas.Option.{slice_get_read}
use Rattle.kt_space.specs.Holding.{Holding}
use Rattle.kt_space.specs.auxiliary.Slots.{filled}
use Rattle.kt_space.proofs.Filled.{filled_some, filled_none}
use Rattle.kt_space.proofs.bag.copy_of.Goals as goal
use Rattle.kt_space.proofs.bag.copy_of.Goals.{in-Some+in_ok-copy+in_ok-reserve, in_default}

pub loop-slot-preserved : goal.loop-slot-preserved
loop-slot-preserved c =
    let read : slice_get c.args.slots.now c.loop-slot.slot-index ≡ Some c.slot-item.result =
    slice_get_read c.args.slots.now (length c.args.slots.now) c.loop-slot.slot-index c.slot-item.result refl c.loop-slot-test.true c.slot-item.is in
    let next = ap (λ n. filled (take n c.args.slots.now)) (sym (add-one c.loop-slot.slot-index)) in
    elim c.match-slot.branch [
      | in-Some+in_ok-copy+in_ok-reserve w ↦
          let more = filled_some c.args.slots.now c.loop-slot.slot-index w.in-Some.tuple (read ∙ ap Some w.in-Some.is) in
          ap (λ (v : Holding). v.tuples) w.bag-is ∙ w.put_reserved.ensures ∙ ap (λ l. l ++ w.in_ok-copy.copy ∷ []) (w.in_ok-reserve.ensures.tuples
          ∙ c.loop-slot.invariant)
          ∙ ap (λ u. filled (take c.loop-slot.slot-index c.args.slots.now) ++ u ∷ []) w.in_ok-copy.ensures ∙ sym more ∙ next
      | in_default w ↦
          ap (λ (v : Holding). v.tuples) w.bag-is ∙ c.loop-slot.invariant ∙ sym (filled_none c.args.slots.now c.loop-slot.slot-index (read
          ∙ ap Some w.in_default.is)) ∙ next
    ]
