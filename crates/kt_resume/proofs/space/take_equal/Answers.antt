use Rattle.std.proofs.Common.{◌∙◌, sym}
use Rattle.kt_resume.proofs.EqualTuples.{found_left, found_there}
use Rattle.kt_resume.proofs.space.take_equal.Goals as goal

pub returns-clause-there : goal.returns-clause-there
returns-clause-there c =
    let there =
    found_there c.in_ok-alone.alone c.args.tuple.now c.args.bag.now.tuples c.take_nth.result c.in_ok-alone.ensures.alone c.take_nth.ensures.taken in
    (λ yes. there.0 (sym c.is_some.ensures ∙ yes), λ h. c.is_some.ensures ∙ there.1 h)

pub returns-clause-left : goal.returns-clause-left
returns-clause-left c = λ yes.
    found_left c.in_ok-alone.alone c.args.tuple.now c.args.bag.now.tuples c.take_nth.new.self.tuples c.take_nth.result c.in_ok-alone.ensures.alone
    c.take_nth.ensures.taken c.take_nth.ensures.left (sym c.is_some.ensures ∙ yes)
