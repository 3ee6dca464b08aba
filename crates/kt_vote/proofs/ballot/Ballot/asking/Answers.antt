use Rattle.std.proofs.Common.{rules, ◌≡◌}
use Rattle.kt_vote.proofs.Asked.{all_asked, asking_after}
use Rattle.kt_vote.proofs.ballot.Ballot.asking.Goals as goal

pub invariant_of-result : goal.invariant_of-result
invariant_of-result c =
    let awaited : c.in_ok-awaited.awaited.items ≡ c.args.asked.items = search rules in
    rw awaited (all_asked c.args.asked.items c.requires)

pub returns-clause-after : goal.returns-clause-after
returns-clause-after c =
    let awaited : c.in_ok-awaited.awaited.items ≡ c.args.asked.items = search rules in
    rw awaited (asking_after c.args.instance c.args.incarnation c.args.parent c.args.asked.items)
