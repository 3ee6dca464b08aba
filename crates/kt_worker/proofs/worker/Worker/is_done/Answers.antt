use Rattle.std.proofs.Common.{rules, ◌≡◌, ◌∙◌}
use Rattle.kt_worker.specs.WorkerModel.{is_left}
use Rattle.kt_worker.proofs.Requests.{is_left-asks, asks-none}
use Rattle.kt_worker.proofs.worker.Worker.is_done.Goals as goal

pub returns-then-is_none-clause-asks : goal.returns-then-is_none-clause-asks
returns-then-is_none-clause-asks c =
    let exact : c.has_next.result ≡ is_left c.args.script.now c.args.self.now = search rules in
    λ answers after. asks-none c.has_next.result _ (exact ∙ is_left-asks c.args.script.now answers c.args.self.now after)
