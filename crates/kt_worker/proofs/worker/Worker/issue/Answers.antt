use Rattle.std.proofs.Common.{rules, ◌≡◌, Some, None, ap, ◌∙◌}
use Rattle.kt_worker.specs.WorkerModel.{next_request}
use Rattle.kt_worker.proofs.Requests.{request-asks, issued-after}
use Rattle.kt_worker.proofs.worker.Worker.issue.Goals as goal

pub returns-in_default-clause-asks : goal.returns-in_default-clause-asks
returns-in_default-clause-asks c =
    let given : None ≡ next_request c.args.script.now c.args.self.now = search rules in
    λ answers after free. given ∙ request-asks c.args.script.now answers c.args.self.now after free

pub returns-clause-asks : goal.returns-clause-asks
returns-clause-asks c =
    let given : Some (c.self.inside.number, c.in-Some.field-0.op) ≡ next_request c.args.script.now c.args.self.now = search rules in
    λ answers after free. given ∙ request-asks c.args.script.now answers c.args.self.now after free

pub returns-clause-after : goal.returns-clause-after
returns-clause-after c = λ answers after. search (rules, issued-after c.args.script.now answers c.args.self.now after)
