use Rattle.std.proofs.Common.{refl, take}
use Rattle.kt_trials.proofs.Firsts.{tally-more}
use Rattle.kt_trials.proofs.tally.tally_of.Goals as goal

pub loop-i-preserved : goal.loop-i-preserved
loop-i-preserved c =
    tally-more c.push_new.new.out.items c.loop-i.out.items c.args.reports.now (take c.loop-i.i c.args.reports.now) c.loop-i.i c.index-reports-i.result
    c.deref.result.now c.loop-i-test.true c.index-reports-i.is refl c.deref.ensures.value c.loop-i.invariant c.in_ok-push_new.ensures
