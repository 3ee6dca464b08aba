use Rattle.std.proofs.Common.{◌-◌, drop, ap, ◌∙◌, arith}
use Rattle.std.proofs.lemmas.Grind.{common_steps}
use Rattle.kt_draw.proofs.Drawn.{rows_left}
use Rattle.kt_draw.proofs.picture.rows_from.Goals as goal

pub returns : goal.returns
returns c =
    rows_left c.rows-rows.result.now c.split_at.result.1.now (c.args.first - 1) _ c.split_at.ensures.back (grind (arith, common_steps))
    ∙ ap (drop (c.args.first - 1)) c.rows-rows.ensures
