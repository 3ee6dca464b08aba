use Rattle.std.proofs.Common.{refl, sym, ◌∙◌}
use Rattle.kt_trials.proofs.Firsts.{none_new, one_new}
use Rattle.kt_trials.proofs.tally.push_new.Goals as goal

pub returns-then-has : goal.returns-then-has
returns-then-has c = none_new _ _ c.args.before.now c.args.all.now c.args.report.now refl (sym c.has.ensures ∙ c.if-has.true)

pub returns : goal.returns
returns c =
    one_new c.extend_from_slice.result c.extend_from_slice.new.self.items c.push_times.new.out.items c.args.out.now.items c.args.before.now c.args.all.now
    c.args.report.now c.times_in.result c.extend_from_slice.ensures.items c.in_ok-push_times.ensures c.times_in.ensures
    (sym c.has.ensures ∙ c.if-has.false)
