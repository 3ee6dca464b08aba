use Rattle.std.proofs.Common.{rules, ◌≡◌, ◌∙◌}
use Rattle.kt_worker.specs.WorkerModel.{is_left}
use Rattle.kt_worker.proofs.Requests.{is_left-asks}
use Rattle.kt_worker.proofs.worker.Worker.has_next.Goals as goal

pub returns-else-is_some-clause-asks : goal.returns-else-is_some-clause-asks
returns-else-is_some-clause-asks c =
    let exact : c.has_next.result ≡ is_left c.args.script.now c.args.self.now = search rules in
    λ answers after. exact ∙ is_left-asks c.args.script.now answers c.args.self.now after
