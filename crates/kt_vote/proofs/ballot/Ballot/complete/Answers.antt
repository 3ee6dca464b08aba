use Rattle.std.proofs.Common.{◌≡◌, ◌↔◌, [], arith}
use Rattle.std.specs.Prelude.{IsTrue}
use Rattle.std.proofs.lemmas.Grind.{common_steps}
use Rattle.kt_vote.proofs.After.{complete_iff}
use Rattle.kt_vote.proofs.ballot.Ballot.complete.Goals as goal

pub returns-clause-voted : goal.returns-clause-voted
returns-clause-voted c =
    let none : IsTrue c.is_empty.result ↔ (c.args.self.now.awaited ≡ []) = grind (arith, common_steps) in
    λ votes h. let iff = complete_iff c.args.self.now votes h in (λ e. iff.0 (none.0 e), λ all. none.1 (iff.1 all))
