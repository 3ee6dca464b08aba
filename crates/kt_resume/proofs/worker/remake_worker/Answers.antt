use Rattle.std.proofs.Common.{◌≡◌, ◌+◌, ◌<◌, ◌∙◌, List, ℕ, Some, None, false, true, sym, ap, subst, take, get_or, length, arith}
use Rattle.std.specs.Option.{option_copied}
use Rattle.kt_history.specs.declared.note.Act.{Act}
use Rattle.kt_history.specs.Closed.{act_of, acts_at}
use Rattle.kt_history.specs.Log.{log, note_at}
use Rattle.kt_tuple.specs.declared.node.NodeId.TheVariants as ids
use Rattle.kt_script.specs.Asks.{asks}
use Rattle.kt_worker.specs.WorkerModel.{WorkerModel}
use Rattle.kt_logs.specs.WorkerLog.{MadeWorker, WorkerLog, new_worker, worker_of_acts}
use Rattle.kt_logs.proofs.Growth.{worker_of_acts-push}
use Rattle.kt_model.specs.Like.{IsWorkerLike}
use Rattle.kt_resume.proofs.Workers.{WorkerLog-more, acts-more, acts-none, log-act}
use Rattle.kt_resume.proofs.worker.remake_worker.Goals as goal
use Rattle.kt_resume.proofs.worker.remake_worker.Goals.{in-Some+in_ok-makes+else-not-branch, in_default}

pub returns-then-not-branch-clause-none : goal.returns-then-not-branch-clause-none
returns-then-not-branch-clause-none c = λ e legal.
    let h = c.args.history.now.notes in
    let xs = log h (ids.Worker c.args.name) in
    let i = c.loop-number.number-index in
    let items : c.line-number-items.result.now ≡ xs = c.line-number-items.ensures in
    let lt : i < length xs = let below = c.loop-number-test.true in let long = ap (λ (l : List ℕ). length l) items in omega (arith, below, long) in
    let is : act_of (note_at h (get_or xs i 0)) ≡ Some c.in-Some.act.now =
    ap (λ (l : List ℕ). act_of (note_at h (get_or l i 0))) (sym items) ∙ sym c.act.ensures ∙ ap option_copied c.in-Some.is in
    let makes = log-act (asks c.args.script.now) c.args.name new_worker h xs i c.in-Some.act.now lt is legal in
    let yes = (c.in_ok-makes.ensures.may (worker_of_acts new_worker (acts_at h (take i xs))) c.loop-number.invariant.like).1 makes in
    let apart : false ≡ true = sym c.if-not-branch.true ∙ yes in
    absurd (cc (apart))

pub loop-number-preserved : goal.loop-number-preserved
loop-number-preserved c = elim c.match-act.branch [
  | in-Some+in_ok-makes+else-not-branch w ↦
      let h = c.args.history.now.notes in
      let xs = log h (ids.Worker c.args.name) in
      let i = c.loop-number.number-index in
      let made = worker_of_acts new_worker (acts_at h (take i xs)) in
      let items : c.line-number-items.result.now ≡ xs = c.line-number-items.ensures in
      let lt : i < length xs = let below = c.loop-number-test.true in let long = ap (λ (l : List ℕ). length l) items in omega (arith, below, long) in
      let is : act_of (note_at h (get_or xs i 0)) ≡ Some w.in-Some.act.now =
      ap (λ (l : List ℕ). act_of (note_at h (get_or l i 0))) (sym items) ∙ sym c.act.ensures ∙ ap option_copied w.in-Some.is in
      let more = acts-more h xs i w.in-Some.act.now lt is in
      let inv = c.loop-number.invariant in
      let makes = (w.in_ok-makes.ensures.may made inv.like).0 w.if-not-branch.false in
      let like = w.in_ok-makes.ensures.after made inv.like w.if-not-branch.false in
      record {
        legal = subst (WorkerLog (asks c.args.script.now) c.args.name new_worker) (sym more)
            (WorkerLog-more (asks c.args.script.now) c.args.name new_worker (acts_at h (take i xs)) w.in-Some.act.now inv.legal makes);
        like = subst (λ (x : WorkerModel). IsWorkerLike c.args.script.now (worker_of_acts new_worker (acts_at h (take (i + 1) xs))) x) (sym w.worker-is)
            (subst (λ (m : MadeWorker). IsWorkerLike c.args.script.now m w.makes.new.worker)
            (sym (ap (worker_of_acts new_worker) more ∙ worker_of_acts-push new_worker (acts_at h (take i xs)) w.in-Some.act.now)) like);
      }
  | in_default w ↦
      let h = c.args.history.now.notes in
      let xs = log h (ids.Worker c.args.name) in
      let i = c.loop-number.number-index in
      let items : c.line-number-items.result.now ≡ xs = c.line-number-items.ensures in
      let lt : i < length xs = let below = c.loop-number-test.true in let long = ap (λ (l : List ℕ). length l) items in omega (arith, below, long) in
      let is : act_of (note_at h (get_or xs i 0)) ≡ None = ap (λ (l : List ℕ). act_of (note_at h (get_or l i 0))) (sym items) ∙ sym w.in_default.ensures in
      let same = acts-none h xs i lt is in
      let inv = c.loop-number.invariant in
      record {
        legal = subst (WorkerLog (asks c.args.script.now) c.args.name new_worker) (sym same) inv.legal;
        like = subst (λ (x : WorkerModel). IsWorkerLike c.args.script.now (worker_of_acts new_worker (acts_at h (take (i + 1) xs))) x) (sym w.worker-is)
            (subst (λ (l : List Act). IsWorkerLike c.args.script.now (worker_of_acts new_worker l) c.loop-number.worker) (sym same) inv.like);
      }
]
