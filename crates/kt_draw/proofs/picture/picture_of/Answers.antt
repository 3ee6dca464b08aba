use Rattle.std.proofs.Common.{◌≡◌, ◌+◌, List, ap, subst, ◌∙◌, length, arith}
use Rattle.std.specs.Prelude.{max, min}
use Rattle.std.proofs.lemmas.Grind.{common_steps}
use Rattle.kt_trace.specs.declared.traced.TracedStep.{TracedStep}
use Rattle.kt_draw.specs.Rows.{HasRowsOn, picture_head}
use Rattle.kt_draw.proofs.picture.picture_of.Goals as goal

pub returns : goal.returns
returns c =
    let first : c.min-first.result ≡ min (max c.args.first 1) (length c.args.story.now.rows + 1) = grind (arith, common_steps) in
    record {
      drawn = record {
        sheet = c.in_ok-sheet.sheet;
        workers = c.in_ok-sheet.ensures.workers;
        shards = c.in_ok-sheet.ensures.shards;
        top = c.in_ok-sheet.ensures.first ∙ first;
        room = c.in_ok-sheet.ensures.rows ∙ ap (λ (rows : List TracedStep). min (length rows) 4294967295) c.rows_from-rows.ensures;
        rows = subst (λ (rows : List TracedStep). HasRowsOn (picture_head c.args.form) c.in_ok-sheet.sheet c.args.story.now
            rows c.in_ok-text.text.items) c.rows_from-rows.ensures c.in_ok-text.ensures;
      };
    }
