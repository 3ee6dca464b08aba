use Rattle.std.proofs.Common.{◌≡◌, ap, refl, sym, ◌∙◌, set, Some}
use Rattle.std.specs.List.{slice_get}
use Rattle.std.proofs.lemmas.List.{set-get_or}
use Rattle.std.proofs.lemmas.Option.{slice_get_read}
use Rattle.kt_history.specs.declared.note.Note.TheVariants as notes
use Rattle.kt_history.specs.auxiliary.Marks.{mark_at, no_mark, renewed}
use Rattle.kt_history.proofs.mark.renew_at.Goals as goal

-- a note that is no act keeps its mark
pub returns-in_default : goal.returns-in_default
returns-in_default c =
    let marks = c.args.marks.now in
    let place = c.args.place in
    let at : slice_get c.args.notes.now place ≡ Some (notes.Cut c.in_default.field-0 c.in_default.field-1) =
    slice_get_read _ _ _ _ refl c.requires.within c.index-notes-place.is ∙ ap Some c.in_default.is in
    sym (ap (λ o. set marks place (renewed o (mark_at marks place) marks)) at ∙ set-get_or marks place no_mark)
