use Rattle.std.proofs.Common.{rules, ◌≡◌, true, false}
use Rattle.kt_worker.specs.WorkerModel.{awaits}
use Rattle.kt_worker.proofs.Requests.{awaits-is, awaits-decides, heard-after}
use Rattle.kt_worker.proofs.worker.Worker.hear.Goals as goal

pub returns-then-not-awaits-clause-accepts : goal.returns-then-not-awaits-clause-accepts
returns-then-not-awaits-clause-accepts c =
    let e : awaits c.args.self.now c.args.number c.args.op.now ≡ false = search rules in
    awaits-decides c.args.self.now c.args.number c.args.op.now false e

pub returns-clause-accepts : goal.returns-clause-accepts
returns-clause-accepts c =
    let e : awaits c.args.self.now c.args.number c.args.op.now ≡ true = search rules in
    awaits-decides c.args.self.now c.args.number c.args.op.now true e

pub returns-clause-after : goal.returns-clause-after
returns-clause-after c =
    let e : awaits c.args.self.now c.args.number c.args.op.now ≡ true = search rules in
    let waits = awaits-is c.args.self.now c.args.number c.args.op.now e in
    λ answers after _. search (rules, heard-after c.args.script.now answers c.args.self.now c.args.op.now c.args.answer.now after waits.1)
