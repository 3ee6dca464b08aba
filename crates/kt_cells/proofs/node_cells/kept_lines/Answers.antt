use Rattle.std.proofs.Common.{arith}
use Rattle.std.specs.Option.{option_copied}
use Rattle.kt_core.specs.Lent.{kept}
use Rattle.kt_cells.specs.Lines.{kept_line}
use Rattle.kt_cells.specs.Texts.{text_of}
use Rattle.kt_cells.proofs.Added.{taken_all, taken_more}
use Rattle.kt_cells.proofs.node_cells.kept_lines.Goals as goal

pub loop-place-preserved : goal.loop-place-preserved
loop-place-preserved c =
    taken_more (λ x. kept_line x.0 x.1) (kept c.args.world.now.state c.args.node) c.loop-place.place (text_of c.loop-place.lines.items)
    (text_of c.add_kept.new.lines.items) (option_copied c.kept_at.result) c.loop-place.invariant c.in_ok-add_kept.ensures c.kept_at.ensures

pub returns : goal.returns
returns c =
    taken_all (λ x. kept_line x.0 x.1) (kept c.args.world.now.state c.args.node) c.loop-place.place (text_of c.loop-place.lines.items)
    (omega (arith, c.kept_len-place-end.ensures)) c.loop-place.invariant
