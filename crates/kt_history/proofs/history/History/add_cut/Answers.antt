use Rattle.std.proofs.Common.{◌≡◌, ◌++◌, ◌∷◌, [], ap, ◌∙◌, length, arith, refl}
use Rattle.std.proofs.lemmas.List.{take_at}
use Rattle.kt_history.specs.declared.note.Note.TheVariants as notes
use Rattle.kt_history.specs.auxiliary.Marks.{no_mark}
use Rattle.kt_history.proofs.Room.{shown_notes, HasPlace-of}
use Rattle.kt_history.proofs.Keeping.{Agrees-at, Agrees-marks_of, AreMarksOf-at, MayFollow-at}
use Rattle.kt_history.proofs.KeepingCuts.{AreLost-at, behind-is, Agrees-pushed_cut}
use Rattle.kt_history.proofs.history.History.add_cut.Goals as goal

pub lose-self-inside-requires-clause-marks_of : goal.lose-self-inside-requires-clause-marks_of
lose-self-inside-requires-clause-marks_of c =
    AreMarksOf-at _ _ _ _ c.deref.ensures.value c.deref_mut.ensures.value (Agrees-marks_of _ _ _ _ c.self.invariant)

pub lose-self-inside-requires-clause-numbers : goal.lose-self-inside-requires-clause-numbers
lose-self-inside-requires-clause-numbers c = λ some.
    let numbers =
    behind-is _ _ _ _ c.self.invariant c.args.node c.index-place.result c.args.keep c.behind-lost.result.now c.index-place.ensures.value
    c.behind-lost.ensures in
    AreLost-at c.self.inside.notes.items _ c.args.node c.args.keep c.behind-lost.result.now c.deref.ensures.value numbers some

pub push_reserved-requires : goal.push_reserved-requires
push_reserved-requires c =
    (HasPlace-of c.self.inside.notes c.self.inside.marks c.self.inside.logs.items c.args.self.now c.args.node c.index-place.result c.self.view_is
    c.index-place.ensures.value c.requires.room).marks

pub push_reserved-requires-2 : goal.push_reserved-requires-2
push_reserved-requires-2 c =
    (HasPlace-of c.self.inside.notes c.self.inside.marks c.self.inside.logs.items c.args.self.now c.args.node c.index-place.result c.self.view_is
    c.index-place.ensures.value c.requires.room).notes

pub invariant_of-self : goal.invariant_of-self
invariant_of-self c =
    let h = c.self.inside.notes.items in
    let may = MayFollow-at _ _ (notes.Cut c.args.node c.args.keep) (shown_notes c.self.view_is) c.requires.follows in
    let numbers =
    behind-is _ _ _ _ c.self.invariant c.args.node c.index-place.result c.args.keep c.behind-lost.result.now c.index-place.ensures.value
    c.behind-lost.ensures in
    let b = c.lose-self-inside.ensures in
    let written : length c.lose-self-inside.new.marks ≡ c.self.inside.marks.len =
    omega (arith, c.lose-self-inside.auto.marks, c.deref_mut.ensures.len, c.self.inside.marks.ok.0) in
    Agrees-at _ _ _ _ _ _ _ _
    c.push_reserved-2.ensures.items
    refl
    (c.push_reserved.ensures.items ∙ ap (λ xs. xs ++ no_mark ∷ []) (take_at c.lose-self-inside.new.marks _ _ written))
    refl
    (Agrees-pushed_cut h c.deref.result.now _ _ c.self.inside.marks.items c.deref_mut.result.now c.lose-self-inside.new.marks c.self.inside.lost
    c.lose-self-inside.result c.args.node c.index-place.result c.args.keep c.behind-lost.result.now c.self.invariant may c.deref.ensures.value
    c.deref_mut.ensures.value c.index-place.ensures.value numbers c.shorten.ensures b.none b.some b.lost)
