use Rattle.std.proofs.Common.{rules, ◌≡◌, not, filter}
use Rattle.kt_tuple.specs.Node.{node_eq}
use Rattle.kt_vote.proofs.Asked.{fewer}
use Rattle.kt_vote.proofs.ballot.Ballot.count.Goals as goal

pub invariant_of-self : goal.invariant_of-self
invariant_of-self c =
    let left : c.strike.new.nodes.items ≡ filter (λ x. not (node_eq x c.args.from)) c.self.inside.awaited.items = search rules in
    rw left (fewer c.self.inside.asked.items c.self.inside.awaited.items _ c.self.invariant)
