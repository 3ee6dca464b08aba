use Rattle.std.proofs.Common.{◌++◌, List, ℕ, ap, ◌∙◌}
use Rattle.std.proofs.lemmas.Result.{on_ok_weaker}
use Rattle.std.specs.List.{flat_map}
use Rattle.std.specs.Prelude.{codes}
use Rattle.kt_scene.specs.Report.{count_line, service_line}
use Rattle.kt_scene.proofs.report.push_report.Goals as goal

pub returns : goal.returns
returns c =
    on_ok_weaker c.push_tuples.result (λ kept. record {
      before = c.push_count-2.new.out.items;
      between = c.push_bag.new.out.items;
      told = c.in_ok-push_count-2.ensures
          ∙ ap (λ (t : List ℕ). t ++ count_line (codes "lost ") c.args.lost)
          (c.in_ok-push_services.ensures ∙ ap (λ (t : List ℕ). t ++ flat_map service_line c.args.survivors.now) c.in_ok-push_count.ensures);
      spaced = c.in_ok-push_bag.ensures;
      kept = kept;
    })
    c.push_tuples.ensures
