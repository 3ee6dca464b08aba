use Rattle.std.proofs.Common.{rules, ◌≡◌, ◌∷◌, ◌++◌, [], All, sym, subst}
use Rattle.kt_vote.specs.Order.{IsBefore}
use Rattle.kt_vote.specs.Poll.{Poll}
use Rattle.kt_vote.proofs.Asked.{one_more, asked_after}
use Rattle.kt_vote.proofs.ballot.Ballot.ask.Goals as goal

pub invariant_of-self-2 : goal.invariant_of-self-2
invariant_of-self-2 c =
    let before : All (λ x. IsBefore x c.args.node) c.self.inside.asked.items =
    subst (λ (b : Poll). All (λ x. IsBefore x c.args.node) b.asked) (sym c.self.view_is) c.requires in
    let asked : c.push_reserved.new.self.items ≡ c.self.inside.asked.items ++ c.args.node ∷ [] = search rules in
    let awaited : c.push_reserved-2.new.self.items ≡ c.self.inside.awaited.items ++ c.args.node ∷ [] = search rules in
    rw asked (rw awaited (one_more c.self.inside.asked.items c.self.inside.awaited.items c.args.node c.self.invariant before))

pub returns-clause-after : goal.returns-clause-after
returns-clause-after c = λ votes h silent. search (rules, asked_after votes c.args.self.now c.args.node h silent)
