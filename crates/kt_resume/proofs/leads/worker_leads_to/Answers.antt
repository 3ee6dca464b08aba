use Rattle.std.proofs.Common.{◌≡◌, Option, Some, sym, subst}
use Rattle.std.specs.Prelude.{IfSome}
use Rattle.kt_tuple.specs.declared.node.NodeId.TheVariants as ids
use Rattle.kt_history.specs.Closed.{acts_in_log}
use Rattle.kt_script.specs.Asks.{asks}
use Rattle.kt_worker.specs.WorkerModel.{WorkerModel}
use Rattle.kt_logs.specs.WorkerLog.{WorkerLog, new_worker, worker_of_acts}
use Rattle.kt_scenario.specs.Scene.{script_at}
use Rattle.kt_model.specs.Like.{IsWorkerLike}
use Rattle.kt_resume.proofs.Fits.{leads-worker, worker-leads}
use Rattle.kt_resume.proofs.leads.worker_leads_to.Goals as goal

pub returns-in-Some-2 : goal.returns-in-Some-2
returns-in-Some-2 c = λ scene same there.
    let name = c.args.name in
    let acts = acts_in_log c.args.history.now.notes (ids.Worker name) in
    let script = c.in-Some.script.now in
    let stored = c.args.stored.now in
    let found : script_at scene.scripts name ≡ Some script = sym (c.in-Some.ensures scene same) in
    let legal : WorkerLog (asks script) name new_worker acts =
    subst (λ (o : Option WorkerModel). IfSome o (λ w. WorkerLog (asks script) name new_worker acts)) c.in-Some-2.is c.in_ok-worker.ensures.made in
    let like : IsWorkerLike script (worker_of_acts new_worker acts) c.in-Some-2.worker =
    subst (λ (o : Option WorkerModel). IfSome o (λ w. IsWorkerLike script (worker_of_acts new_worker acts) w)) c.in-Some-2.is c.in_ok-worker.ensures.like in
    let suits = c.suits_worker.ensures.like script (worker_of_acts new_worker acts) like in (
      λ t. worker-leads scene name acts script stored found legal (suits.0 t),
      λ leads. suits.1 (leads-worker scene name acts script stored found leads).1,
    )
