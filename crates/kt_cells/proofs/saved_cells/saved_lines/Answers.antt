use Rattle.std.proofs.Common.{List, length, ap, ◌∙◌}
use Rattle.kt_history.specs.Log.{log}
use Rattle.kt_history.specs.declared.note.Note.{Note}
use Rattle.kt_store.specs.Content.{Content}
use Rattle.kt_cells.specs.Texts.{text_of}
use Rattle.kt_cells.proofs.Saved.{saved_is}
use Rattle.kt_cells.proofs.saved_cells.saved_lines.Goals as goal

pub returns : goal.returns
returns c =
    saved_is c.args.world.now.state c.args.node c.rows.result.now _ _ _ (text_of c.new-lines.result.items) (text_of c.add_count.new.lines.items)
    (text_of c.add_permanent.new.lines.items) (text_of c.add_tentative.new.lines.items)
    (c.rows.ensures ∙ ap (λ (content : Content). content.nodes) c.store.ensures.content) c.row_at-row.ensures
    (ap length (c.line.ensures ∙ ap (λ (notes : List Note). log notes c.args.node) c.history.ensures.value)) c.permanent_len.ensures
    (ap text_of c.new-lines.ensures.items) c.in_ok-add_count.ensures c.in_ok-add_permanent.ensures c.in_ok-add_tentative.ensures
