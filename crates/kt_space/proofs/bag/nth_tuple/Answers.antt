use Rattle.std.proofs.Common.{◌≡◌, suc, ◌+◌, List, Some, [], ◌∷◌, ◌++◌, take, length, add-one, refl, sym, ap, ◌∙◌, arith}
use Rattle.std.specs.List.{slice_get}
use Rattle.std.proofs.lemmas.List.{take_all}
use Rattle.std.proofs.lemmas.Option.{slice_get_read, slice_get_past}
use Rattle.kt_tuple.specs.declared.tuple.Tuple.{Tuple}
use Rattle.kt_space.specs.auxiliary.Slots.{filled}
use Rattle.kt_space.proofs.Filled.{filled_some, filled_none, tuple_at}
use Rattle.kt_space.proofs.bag.nth_tuple.Goals as goal
use Rattle.kt_space.proofs.bag.nth_tuple.Goals.{in-Some+else-before-eq0, in_default}

size-more : (xs : List Tuple) (u : Tuple) → length (xs ++ u ∷ []) ≡ suc (length xs)
size-more [] u = refl
size-more (x ∷ xs) u = ap suc (size-more xs u)

pub returns-then-before-eq0 : goal.returns-then-before-eq0
returns-then-before-eq0 c =
    let read : slice_get c.args.slots.now c.loop-slot.slot-index ≡ Some c.slot-item.result =
    slice_get_read c.args.slots.now (length c.args.slots.now) c.loop-slot.slot-index c.slot-item.result refl c.loop-slot-test.true c.slot-item.is in
    let was : length (filled (take c.loop-slot.slot-index c.args.slots.now)) + c.loop-slot.before ≡ c.args.number = c.loop-slot.invariant in
    let zero_left = c.if-before-eq0.true in
    let number : length (filled (take c.loop-slot.slot-index c.args.slots.now)) ≡ c.args.number = omega (arith, was, zero_left) in
    sym (tuple_at c.args.slots.now c.loop-slot.slot-index c.in-Some.tuple (read ∙ ap Some c.in-Some.is)) ∙ ap (slice_get (filled c.args.slots.now)) number

pub loop-slot-preserved : goal.loop-slot-preserved
loop-slot-preserved c =
    let read : slice_get c.args.slots.now c.loop-slot.slot-index ≡ Some c.slot-item.result =
    slice_get_read c.args.slots.now (length c.args.slots.now) c.loop-slot.slot-index c.slot-item.result refl c.loop-slot-test.true c.slot-item.is in
    let was : length (filled (take c.loop-slot.slot-index c.args.slots.now)) + c.loop-slot.before ≡ c.args.number = c.loop-slot.invariant in
    let next : length (filled (take (c.loop-slot.slot-index + 1) c.args.slots.now)) ≡ length (filled (take (suc c.loop-slot.slot-index) c.args.slots.now)) =
    ap (λ n. length (filled (take n c.args.slots.now))) (add-one c.loop-slot.slot-index) in
    elim c.match-slot.branch [
      | in-Some+else-before-eq0 w ↦
          let more : length (filled (take (suc c.loop-slot.slot-index) c.args.slots.now)) ≡ suc (length (filled (take c.loop-slot.slot-index
          c.args.slots.now))) =
          ap length (filled_some c.args.slots.now c.loop-slot.slot-index w.in-Some.tuple (read ∙ ap Some w.in-Some.is))
          ∙ size-more (filled (take c.loop-slot.slot-index c.args.slots.now)) w.in-Some.tuple in
          let is = w.before-is in
          let some_left = w.if-before-eq0.false in
          omega (arith, was, next, more, is, some_left)
      | in_default w ↦
          let same : length (filled (take (suc c.loop-slot.slot-index) c.args.slots.now)) ≡ length (filled (take c.loop-slot.slot-index c.args.slots.now)) =
          ap length (filled_none c.args.slots.now c.loop-slot.slot-index (read ∙ ap Some w.in_default.is)) in
          let is = w.before-is in
          omega (arith, was, next, same, is)
    ]

pub returns : goal.returns
returns c =
    let was : length (filled (take c.loop-slot.slot-index c.args.slots.now)) + c.loop-slot.before ≡ c.args.number = c.loop-slot.invariant in
    let all : filled (take c.loop-slot.slot-index c.args.slots.now) ≡ filled c.args.slots.now = ap filled (take_all c.loop-slot.slot-index c.args.slots.now
    c.loop-slot-test.false) in
    let size = ap length all in
    sym (slice_get_past (filled c.args.slots.now) c.args.number (omega (arith, was, size)))
