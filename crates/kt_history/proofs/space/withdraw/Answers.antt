use Rattle.kt_history.proofs.Runs.{first_match-only}
use Rattle.kt_history.proofs.space.withdraw.Goals as goal

pub returns : goal.returns
returns c = λ there. rw c.take_nth.ensures.left (first_match-only c.in_ok-alone.alone c.args.tuple.now c.args.bag.now.tuples c.in_ok-alone.ensures.alone there)
