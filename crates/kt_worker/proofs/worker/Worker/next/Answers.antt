use Rattle.std.proofs.Common.{◌<◌, subst}
use Rattle.std.specs.Prelude.{IfOk, IfSome}
use Rattle.kt_worker.specs.WorkerModel.{WorkerModel}
use Rattle.kt_worker.proofs.Later.{found-later}
use Rattle.kt_worker.proofs.worker.Worker.next.Goals as goal

pub returns-clause-later : goal.returns-clause-later
returns-clause-later c =
    let P : WorkerModel → Type 0 = λ w. IfOk c.next.result (λ next. IfSome next (λ n. w.number < n.pc)) in
    let w : WorkerModel = record {
      number = c.self.inside.number;
      asked = c.self.inside.asked;
      position = record { pc = c.self.inside.pc; memory = c.self.inside.env };
    } in
    subst P c.self.view_is (found-later c.args.script.now w c.next.result c.self.invariant c.next.ensures.value)
