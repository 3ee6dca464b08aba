use Rattle.std.proofs.Common.{ℕ, List, ◌++◌, ap, ◌∙◌}
use Rattle.kt_draw.specs.Rows.{picture_head}
use Rattle.kt_draw.proofs.Drawn.{has_rows}
use Rattle.kt_draw.proofs.picture.push_between.Goals as goal

pub returns : goal.returns
returns c =
    has_rows (picture_head c.args.form) c.args.sheet c.args.story.now c.args.rows.now c.args.front.now
    c.extend_from_slice-2.new.self.items c.push_rows.new.out.items c.args.behind.now c.extend_from_slice-3.new.self.items
    (c.in_ok-extend_from_slice-2.ensures.items
    ∙ ap (λ (t : List ℕ). t ++ c.args.front.now) (c.in_ok-extend_from_slice.ensures.items
    ∙ ap (λ (t : List ℕ). t ++ c.picture_head.result.now) c.requires ∙ c.picture_head.ensures))
    c.in_ok-push_rows.ensures c.in_ok-extend_from_slice-3.ensures.items
