use Rattle.std.proofs.Common.{List, subst}
use Rattle.kt_history.specs.declared.note.Note.{Note}
use Rattle.kt_story.specs.auxiliary.Finding.{AreLosses}
use Rattle.kt_story.proofs.story.Story.told.Goals as goal

pub with_losses-requires : goal.with_losses-requires
with_losses-requires c =
    subst (λ (h : List Note). AreLosses h c.in-Ok.losses.items) c.history.ensures.value
    (record { each = c.in-Ok.ensures.each; all = c.in-Ok.ensures.all })
