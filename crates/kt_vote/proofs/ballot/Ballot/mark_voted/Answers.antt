use Rattle.std.proofs.Common.{rules}
use Rattle.kt_vote.proofs.After.{voted_after}
use Rattle.kt_vote.proofs.ballot.Ballot.mark_voted.Goals as goal

pub returns-clause-after : goal.returns-clause-after
returns-clause-after c = λ votes h. search (rules, voted_after c.args.self.now votes h)
