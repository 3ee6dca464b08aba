use Rattle.std.proofs.Common.{◌≡◌, Some, [], ◌∷◌, ◌++◌, take, length, add-one, refl, sym, ap, ◌∙◌}
use Rattle.std.specs.List.{slice_get}
use Rattle.std.proofs.lemmas.Option.{slice_get_read}
use Rattle.kt_space.specs.auxiliary.Slots.{filled}
use Rattle.kt_space.proofs.Filled.{filled_some, filled_none}
use Rattle.kt_space.proofs.bag.tuples_of.Goals as goal
use Rattle.kt_space.proofs.bag.tuples_of.Goals.{in-Some+in_ok-copy+in_ok-push, in_default}

pub loop-slot-preserved : goal.loop-slot-preserved
loop-slot-preserved c =
    let read : slice_get c.args.slots.now c.loop-slot.slot-index ≡ Some c.slot-item.result =
    slice_get_read c.args.slots.now (length c.args.slots.now) c.loop-slot.slot-index c.slot-item.result refl c.loop-slot-test.true c.slot-item.is in
    let next = ap (λ n. filled (take n c.args.slots.now)) (sym (add-one c.loop-slot.slot-index)) in
    elim c.match-slot.branch [
      | in-Some+in_ok-copy+in_ok-push w ↦
          let more = filled_some c.args.slots.now c.loop-slot.slot-index w.in-Some.tuple (read ∙ ap Some w.in-Some.is) in
          rw w.tuples-is
          (w.in_ok-push.ensures.items ∙ ap (λ l. l ++ w.in_ok-copy.field-0 ∷ []) c.loop-slot.invariant
          ∙ ap (λ u. filled (take c.loop-slot.slot-index c.args.slots.now) ++ u ∷ []) w.in_ok-copy.ensures ∙ sym more ∙ next)
      | in_default w ↦
          rw w.tuples-is (c.loop-slot.invariant ∙ sym (filled_none c.args.slots.now c.loop-slot.slot-index (read ∙ ap Some w.in_default.is)) ∙ next)
    ]
