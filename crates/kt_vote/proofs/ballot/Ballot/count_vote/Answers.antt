use Rattle.std.proofs.Common.{rules, ◌≡◌, true}
use Rattle.kt_vote.specs.Poll.{counts}
use Rattle.kt_vote.proofs.Told.{told, told_true}
use Rattle.kt_vote.proofs.ballot.Ballot.count_vote.Goals as goal

pub returns-then-not-counts-clause-after : goal.returns-then-not-counts-clause-after
returns-then-not-counts-clause-after c = λ votes h. search (rules, told c.args.self.now votes (c.args.from, c.args.vote) h)

pub returns-clause-after : goal.returns-clause-after
returns-clause-after c =
    let is : counts c.args.self.now c.args.from c.args.vote ≡ true = search rules in
    λ votes h. search (rules, told_true c.args.self.now votes (c.args.from, c.args.vote) is h)
