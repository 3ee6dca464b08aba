-- What a sound state says of single nodes: a service in a shard's log has the cause of the hearing that put its request
-- in waiting, and a worker stands as its log says.
-- Cited by Lasting.
use Rattle.std.proofs.Common.{◌≡◌, ℕ, List, [], ◌∷◌, ◌++◌, Option, None, Some, sym, ap, ◌∙◌, subst}
use Rattle.std.specs.Prelude.{unwrap_or}
use Rattle.kt_tuple.specs.declared.node.NodeId.TheVariants as ids
use Rattle.kt_tuple.specs.declared.op.Answer.{Answer}
use Rattle.kt_history.specs.declared.note.What.{What}
use Rattle.kt_history.specs.declared.note.What.TheVariants.{Served}
use Rattle.kt_history.specs.declared.note.Act.{Act}
use Rattle.kt_history.specs.Closed.{acts_in_log}
use Rattle.kt_worker.specs.declared.worker.Worker.{Worker}
use Rattle.kt_worker.specs.After.{IsAfter}
use Rattle.kt_shard.specs.declared.request.Request.{Request}
use Rattle.kt_logs.specs.Hearing.{WasHeardFor}
use Rattle.kt_logs.specs.ShardLog.{MadeShard, ShardMay, ShardMakes, ShardLog, shard_after, shard_of_acts, new_shard, request_of}
use Rattle.kt_logs.proofs.Shared.{WasHeard, waits_heard}
use Rattle.kt_state.specs.Node.{Body, IsWorker, IsShard, Node, Down, Alive, worker_of, worker_in}
use Rattle.kt_model.specs.State.{State, node}
use Rattle.kt_model.specs.Asks.{script_numbered}
use Rattle.kt_model.specs.Workers.{made_in_log, WorkersFollowLogs}
use Rattle.kt_model.specs.Like.{IsBodyLike}
use Rattle.kt_model.proofs.Sound.{IsNodeLike, IsSound}

-- ---- services

-- an act of a log is one that the acts before it allow
log-act : (shards s : ℕ) (x : MadeShard) (before : List Act) (a : Act) (later : List Act) → ShardLog shards s x (before ++ a ∷ later)
    → ShardMakes shards s (shard_of_acts x before) a
log-act shards s x [] a later log = log.0
log-act shards s x (b ∷ before) a later log = log-act shards s (shard_after x b) before a later log.1

for_request : (acts : List Act) (a : Act) (cause : ℕ) → WasHeard acts a.worker (request_of a) cause → a.by ≡ cause → WasHeardFor acts a
for_request acts a cause h e = record {
  act = h.act;
  among = h.among;
  hears = h.hears;
  same = record { worker = h.worker; number = ap (λ (r : Request). r.number) h.about; op = ap (λ (r : Request). r.op) h.about };
  by = e ∙ sym h.by;
}

pub service_heard : (s : State) → IsSound s → (r : ℕ) (before : List Act) (a : Act) (later : List Act) (answer : Answer)
    → acts_in_log s.history (ids.Shard r) ≡ before ++ a ∷ later → a.what ≡ Served answer → WasHeardFor before a
service_heard s sound r before a later answer split served =
    let x = shard_of_acts new_shard before in
    let Log : List Act → Type 0 = ShardLog s.scene.shards r new_shard in
    let makes = log-act s.scene.shards r new_shard before a later (subst Log split (sound.legal (ids.Shard r))) in
    let May : What → Type 0 = ShardMay x.bag (x.session a.worker) (x.cause a.worker) a in
    let may = subst May served makes.1 in
    for_request before a (x.cause a.worker) (waits_heard before a.worker (request_of a) may.0) may.1

-- ---- workers

abbrev Follows : State → ℕ → Worker → Type 0
Follows s w x = (x.asked ≡ (made_in_log s w).asked) × IsAfter (script_numbered s.scene.scripts w) (made_in_log s w).answers x

pub workers_follow : (s : State) → IsSound s → WorkersFollowLogs s
workers_follow s sound w x e = by_row (node s (ids.Worker w)) (sound.nodes (ids.Worker w)).like e
  where
    by_body : (b : Body) → IsBodyLike s.scene.scripts (ids.Worker w) (acts_in_log s.history (ids.Worker w)) b → worker_in b ≡ Some x → Follows s w x
    by_body (IsWorker z) like is = let same : z ≡ x = cc in subst (Follows s w) same (like.asked, like.after)
    by_body (IsShard y) like is = absurd like

    by_row : (row : Option Node) → IsNodeLike s.scene.scripts (ids.Worker w) (acts_in_log s.history (ids.Worker w)) row
        → worker_of (unwrap_or row Down) ≡ Some x → Follows s w x
    by_row None like is = absurd cc
    by_row (Some Down) like is = absurd cc
    by_row (Some (Alive n)) like is = by_body n.body like is
