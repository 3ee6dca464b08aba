use Rattle.std.proofs.Common.{◌≡◌, ◌++◌, ◌∷◌, []}
use Rattle.kt_trials.specs.auxiliary.Telling.{of_one, of_room}
use Rattle.kt_trials.proofs.Told.{count_more, each_more, pushed}
use Rattle.kt_trials.proofs.times.reports_of.Goals as goal

pub returns-in-Err-clause-fault : goal.returns-in-Err-clause-fault
returns-in-Err-clause-fault g c = of_one c.in-Err.ensures.fault

pub returns-then-is_err-clause-fault : goal.returns-then-is_err-clause-fault
returns-then-is_err-clause-fault g c = of_room

pub loop-preserved : goal.loop-preserved
loop-preserved g c =
    let more : c.push.new.self.items ≡ c.loop.reports.items ++ c.in-Ok.report ∷ [] =
    pushed c.loop.reports.items c.push.new.self.items (c.loop.reports.items ++ c.in-Ok.report ∷ []) _ c.push.ensures.items c.if-is_err.ensures.negation in
    record {
      each = each_more c.args.text.now c.loop.reports.items c.push.new.self.items c.in-Ok.report more c.loop.invariant.each c.in-Ok.ensures.report;
      count = count_more c.loop.reports.items c.push.new.self.items c.in-Ok.report c.loop.counter more c.loop.invariant.count;
    }
