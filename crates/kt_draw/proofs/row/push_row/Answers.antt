use Rattle.std.proofs.Common.{subst, sym}
use Rattle.kt_draw.specs.Rows.{IsSaid, row_begin}
use Rattle.kt_draw.proofs.Behind.{then_more}
use Rattle.kt_draw.proofs.row.push_row.Goals as goal

pub returns : goal.returns
returns c = (
  c.deref.result.now,
  subst (IsSaid c.args.sheet c.args.story.now c.args.row.now) (sym c.deref.ensures.value) c.in_ok-text.ensures,
  then_more c.args.out.now.items (row_begin c.args.sheet c.args.story.now.state.history c.args.row.now) c.deref.result.now
      c.push_row_begin.new.out.items c.extend_from_slice.new.self.items c.in_ok-push_row_begin.ensures c.in_ok-extend_from_slice.ensures.items,
)
