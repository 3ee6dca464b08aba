use Rattle.kt_tuple.proofs.Actuals.{actuals_match_only}
use Rattle.kt_tuple.proofs.template.Template.of.Goals as goal

pub returns-clause-alone : goal.returns-clause-alone
returns-clause-alone c =
    rw c.in_ok-new.ensures.ok (rw c.in_ok-actuals.ensures (rw c.values.ensures.value (actuals_match_only c.args.tuple.now)))
