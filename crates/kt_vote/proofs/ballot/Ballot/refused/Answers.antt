use Rattle.std.proofs.Common.{rules}
use Rattle.kt_vote.proofs.After.{refused_iff}
use Rattle.kt_vote.proofs.ballot.Ballot.refused.Goals as goal

pub returns-clause-said : goal.returns-clause-said
returns-clause-said c = λ votes h. search (rules, refused_iff c.args.self.now votes h)
