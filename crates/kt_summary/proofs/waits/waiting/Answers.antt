use Rattle.std.proofs.Common.{ap, ◌++◌, ◌∙◌, List}
use Rattle.kt_summary.specs.declared.waits.Wait.{Wait}
use Rattle.kt_summary.specs.Waits.{all_waits}
use Rattle.kt_summary.proofs.waits.waiting.Goals as goal

pub returns : goal.returns
returns g c = record {
  list = c.in_ok-push_all.ensures ∙ ap (λ (xs : List Wait). xs ++ all_waits c.args.world.now.state) c.new-found.ensures.items;
}
