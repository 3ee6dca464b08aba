use Rattle.kt_trials.proofs.Behind.{has_remarks}
use Rattle.kt_trials.proofs.chaos.laid_of.Goals as goal

pub returns : goal.returns
returns c =
    has_remarks c.args.chaos c.args.scene c.args.faults c.push_random_faults.new.faults c.lines.result.now c.lines-given.result.now
    c.in_ok-text.text.items c.push_remarks.new.out.items c.new-remarks.result.items c.in_ok-text.ensures c.in_ok-push_random_faults.ensures.drawn
    c.new-remarks.ensures.items c.in_ok-push_remarks.ensures c.lines.ensures c.lines-given.ensures
