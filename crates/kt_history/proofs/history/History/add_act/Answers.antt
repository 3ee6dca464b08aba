use Rattle.std.proofs.Common.{◌≡◌, ◌+◌, ℕ, List, ap, ◌∙◌, length, suc, arith, refl}
use Rattle.kt_history.specs.declared.note.Note.TheVariants as notes
use Rattle.kt_history.specs.Log.{last_of, log}
use Rattle.kt_history.specs.auxiliary.Marks.{act_mark}
use Rattle.kt_history.proofs.Room.{shown_notes, HasPlace, HasPlace-of}
use Rattle.kt_history.proofs.Changes.{last_of-within, cause_within}
use Rattle.kt_history.proofs.Keeping.{Agrees-at, Agrees-row, MayFollow-at}
use Rattle.kt_history.proofs.KeepingActs.{Agrees-pushed_act}
use Rattle.kt_history.proofs.Counts.{lost_with_room}
use Rattle.kt_history.proofs.history.History.add_act.Goals as goal

has_place : (c : goal.After-deref-3) → HasPlace c.self.inside.notes c.self.inside.marks c.self.inside.logs.items c.index-place.result
has_place c = HasPlace-of c.self.inside.notes c.self.inside.marks c.self.inside.logs.items c.args.self.now c.args.act.node c.index-place.result c.self.view_is
    c.index-place.ensures.value c.requires.room

is_previous : (c : goal.After-deref-3) → c.last_number-previous.result ≡ last_of (log c.self.inside.notes.items c.args.act.node)
is_previous c =
    c.last_number-previous.ensures
    ∙ ap last_of (c.deref.ensures.value ∙ Agrees-row _ _ _ _ _ c.self.invariant
    (λ i. refl) c.args.act.node c.index-place.result c.index.result.now c.index-place.ensures.value (has_place c).within c.index.ensures)

pub act_mark-mark-requires-clause-previous : goal.act_mark-mark-requires-clause-previous
act_mark-mark-requires-clause-previous c =
    omega (arith, is_previous c, last_of-within c.self.inside.notes.items c.args.act.node, ap length c.deref-3.ensures.value, c.self.invariant.lengths)

pub act_mark-mark-requires-clause-cause : goal.act_mark-mark-requires-clause-cause
act_mark-mark-requires-clause-cause c =
    let may = MayFollow-at _ _ (notes.Act c.args.act) (shown_notes c.self.view_is) c.requires.follows in
    omega (arith, cause_within c.self.inside.notes.items c.args.act may, ap length c.deref-3.ensures.value, c.self.invariant.lengths)

pub lost_with-self-inside-requires : goal.lost_with-self-inside-requires
lost_with-self-inside-requires c =
    let room = lost_with_room _ _ _ _ c.self.invariant in
    omega (arith, room, c.self.inside.notes.ok.0, c.self.inside.notes.small)

pub invariant_of-self : goal.invariant_of-self
invariant_of-self c =
    let h = c.self.inside.notes.items in
    let may = MayFollow-at _ _ (notes.Act c.args.act) (shown_notes c.self.view_is) c.requires.follows in
    let is_number : c.len.result + 1 ≡ suc (length h) = omega (arith, c.len.ensures, c.self.inside.notes.ok.0) in
    let within =
    (HasPlace-of c.self.inside.notes c.self.inside.marks c.self.inside.logs.items c.args.self.now c.args.act.node c.index-place.result c.self.view_is
    c.index-place.ensures.value c.requires.room).within in
    let previous_is =
    c.last_number-previous.ensures ∙ ap last_of (c.deref.ensures.value ∙ Agrees-row _ _ _ _ _ c.self.invariant
    (λ i. refl) c.args.act.node c.index-place.result c.index.result.now c.index-place.ensures.value within c.index.ensures) in
    let spot_is = c.next_place-spot.ensures
    ∙ ap (λ (l : List ℕ). length l + 1) (c.deref-2.ensures.value ∙ Agrees-row _ _ _ _ _ c.self.invariant
    (λ i. refl) c.args.act.node c.index-place.result c.index-2.result.now c.index-place.ensures.value within c.index-2.ensures) in
    Agrees-at _ _ _ _ _ _ _ _
    c.push_reserved-2.ensures.items
    refl
    c.push_reserved.ensures.items
    c.lost_with-self-inside.ensures
    (Agrees-pushed_act h c.self.inside.logs.items c.self.inside.logs.items c.self.inside.marks.items c.self.inside.lost c.args.act c.self.invariant may
    (λ i. refl) c.index-place.result (c.len.result + 1) c.last_number-previous.result c.next_place-spot.result
    c.act_mark-mark.result c.append.new.rows.items c.index-place.ensures.value
    within is_number previous_is spot_is (c.act_mark-mark.ensures
    ∙ ap (λ ms. act_mark ms c.last_number-previous.result c.args.act.by c.next_place-spot.result) c.deref-3.ensures.value)
    c.append.ensures)

pub push_reserved-requires : goal.push_reserved-requires
push_reserved-requires c =
    (HasPlace-of c.self.inside.notes c.self.inside.marks c.self.inside.logs.items c.args.self.now c.args.act.node c.index-place.result c.self.view_is
    c.index-place.ensures.value c.requires.room).marks
