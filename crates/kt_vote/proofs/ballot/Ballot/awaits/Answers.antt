use Rattle.std.proofs.Common.{rules}
use Rattle.kt_vote.proofs.Asked.{was_asked}
use Rattle.kt_vote.proofs.ballot.Ballot.awaits.Goals as goal

pub returns-clause-asked : goal.returns-clause-asked
returns-clause-asked c = search (rules, was_asked c.self.inside.asked.items c.self.inside.awaited.items c.args.node c.self.invariant)
