-- A list of acts in which each node's own are a log that it may make is a run of all nodes together.
-- Cited by Follows, OneRun.
use Rattle.std.proofs.Common.{◌≡◌, ◌≢◌, ℕ, Bool, true, false, cond, List, [], ◌∷◌, sym, refl, ap, ◌∙◌, subst}
use Rattle.kt_tuple.specs.declared.node.NodeId.{NodeId}
use Rattle.kt_tuple.specs.declared.node.NodeId.TheVariants as nodes
use Rattle.kt_history.specs.declared.note.Act.{Act}
use Rattle.kt_history.specs.Log.{same_node}
use Rattle.kt_history.specs.Closed.{own}
use Rattle.kt_history.proofs.Shared.{same_node-refl, same_node-true}
use Rattle.kt_logs.specs.Order.{Setting}
use Rattle.kt_logs.specs.ShardLog.{MadeShard, ShardMakes, ShardLog, shard_after, shard_of_acts, put_row, new_shard}
use Rattle.kt_logs.specs.WorkerLog.{MadeWorker, WorkerMakes, WorkerLog, worker_after, worker_of_acts, new_worker}
use Rattle.kt_logs.specs.Legal.{IsLog}
use Rattle.kt_logs.proofs.Numbered.{put_row-same, put_row-other, same_node-false}

-- the states of all nodes
pub record World : Type 0 where
  pub shard : ℕ → MadeShard
  pub worker : ℕ → MadeWorker

abbrev pub new_world : World
new_world = record { shard = λ _. new_shard; worker = λ _. new_worker }

-- the act is one of this node
abbrev pub after_at : World → Act → NodeId → World
after_at x a (nodes.Worker w) = record { shard = x.shard; worker = put_row w (worker_after (x.worker w) a) x.worker }
after_at x a (nodes.Shard s) = record { shard = put_row s (shard_after (x.shard s) a) x.shard; worker = x.worker }

abbrev pub world_after : World → Act → World
world_after x a = after_at x a a.node

abbrev pub Makes : Setting → World → Act → NodeId → Type 0
Makes setting x a (nodes.Worker w) = WorkerMakes (setting.asks w) w (x.worker w) a
Makes setting x a (nodes.Shard s) = ShardMakes setting.shards s (x.shard s) a

-- the nodes make these acts one after the other
abbrev pub Runs : Setting → World → List Act → Type 0
Runs setting x [] = Unit {0}
Runs setting x (a ∷ later) = Makes setting x a a.node × Runs setting (world_after x a) later

abbrev pub world_of_acts : World → List Act → World
world_of_acts x [] = x
world_of_acts x (a ∷ later) = world_of_acts (world_after x a) later

-- from its state in x, the node may make these acts
abbrev pub IsLogFrom : Setting → World → NodeId → List Act → Type 0
IsLogFrom setting x (nodes.Worker w) acts = WorkerLog (setting.asks w) w (x.worker w) acts
IsLogFrom setting x (nodes.Shard s) acts = ShardLog setting.shards s (x.shard s) acts

-- the node's first act, and the others from its state then
log_split : (setting : Setting) (x : World) (a : Act) (later : List Act) (p : NodeId) → IsLogFrom setting x p (a ∷ later) →
    Makes setting x a p × IsLogFrom setting (after_at x a p) p later
log_split setting x a later (nodes.Worker w) h = (h.0, rw (put_row-same w (worker_after (x.worker w) a) x.worker) h.1)
log_split setting x a later (nodes.Shard s) h = (h.0, rw (put_row-same s (shard_after (x.shard s) a) x.shard) h.1)

-- an act of another node leaves the log
line_kept : (setting : Setting) (x : World) (a : Act) (later : List Act) (q p : NodeId) → q ≢ p → IsLogFrom setting x p later →
    IsLogFrom setting (after_at x a q) p later
line_kept setting x a later (nodes.Worker v) (nodes.Worker w) d h = rw (put_row-other v w (worker_after (x.worker v) a) x.worker (λ e. d (ap nodes.Worker e))) h
line_kept setting x a later (nodes.Worker v) (nodes.Shard s) d h = h
line_kept setting x a later (nodes.Shard r) (nodes.Worker w) d h = h
line_kept setting x a later (nodes.Shard r) (nodes.Shard s) d h = rw (put_row-other r s (shard_after (x.shard r) a) x.shard (λ e. d (ap nodes.Shard e))) h

pub own-same : (a : Act) (later : List Act) (p : NodeId) → same_node a.node p ≡ true → own p (a ∷ later) ≡ a ∷ own p later
own-same a later p e = rw e refl

pub own-other : (a : Act) (later : List Act) (p : NodeId) → same_node a.node p ≡ false → own p (a ∷ later) ≡ own p later
own-other a later p e = rw e refl

merge_from : (setting : Setting) (x : World) (acts : List Act) → ((p : NodeId) → IsLogFrom setting x p (own p acts)) → Runs setting x acts
merge_from setting x [] h = tt
merge_from setting x (a ∷ later) h = (here.0, merge_from setting (world_after x a) later rest)
  where
    here : Makes setting x a a.node × IsLogFrom setting (world_after x a) a.node (own a.node later)
    here = log_split setting x a (own a.node later) a.node (subst (IsLogFrom setting x a.node) (own-same a later a.node (same_node-refl a.node)) (h a.node))

    at : (p : NodeId) (r : Bool) → same_node a.node p ≡ r → IsLogFrom setting (world_after x a) p (own p later)
    at p true e = subst (λ q. IsLogFrom setting (world_after x a) q (own q later)) (same_node-true a.node p e) here.1
    at p false e = line_kept setting x a (own p later) a.node p (same_node-false a.node p e) (subst (IsLogFrom setting x p) (own-other a later p e) (h p))

    rest : (p : NodeId) → IsLogFrom setting (world_after x a) p (own p later)
    rest p = at p (same_node a.node p) refl

pub merge : (setting : Setting) (acts : List Act) → ((p : NodeId) → IsLog setting p (own p acts)) → Runs setting new_world acts
merge setting acts h = merge_from setting new_world acts log
  where
    log : (p : NodeId) → IsLogFrom setting new_world p (own p acts)
    log (nodes.Worker w) = h (nodes.Worker w)
    log (nodes.Shard s) = h (nodes.Shard s)

-- the state of each node is that of its own acts
pub shard_in_world : (x : World) (acts : List Act) (s : ℕ) → (world_of_acts x acts).shard s ≡ shard_of_acts (x.shard s) (own (nodes.Shard s) acts)
shard_in_world x [] s = refl
shard_in_world x (a ∷ later) s = shard_in_world (world_after x a) later s ∙ by a.node (same_node a.node (nodes.Shard s)) refl
  where
    l : List Act
    l = own (nodes.Shard s) later

    by : (q : NodeId) (r : Bool) → same_node q (nodes.Shard s) ≡ r → shard_of_acts ((after_at x a q).shard s) l ≡ shard_of_acts (x.shard s) (cond r (a ∷ l) l)
    by q true e = subst (λ p. shard_of_acts ((after_at x a p).shard s) l ≡ shard_of_acts (shard_after (x.shard s) a) l)
        (sym (same_node-true q (nodes.Shard s) e)) (ap (λ y. shard_of_acts y l) (put_row-same s (shard_after (x.shard s) a) x.shard))
    by (nodes.Worker v) false e = refl
    by (nodes.Shard r) false e = ap (λ y. shard_of_acts y l)
        (put_row-other r s (shard_after (x.shard r) a) x.shard (λ k. same_node-false (nodes.Shard r) (nodes.Shard s) e (ap nodes.Shard k)))

pub worker_in_world : (x : World) (acts : List Act) (w : ℕ) → (world_of_acts x acts).worker w ≡ worker_of_acts (x.worker w) (own (nodes.Worker w) acts)
worker_in_world x [] w = refl
worker_in_world x (a ∷ later) w = worker_in_world (world_after x a) later w ∙ by a.node (same_node a.node (nodes.Worker w)) refl
  where
    l : List Act
    l = own (nodes.Worker w) later

    by : (q : NodeId) (r : Bool) → same_node q (nodes.Worker w) ≡ r
        → worker_of_acts ((after_at x a q).worker w) l ≡ worker_of_acts (x.worker w) (cond r (a ∷ l) l)
    by q true e = subst (λ p. worker_of_acts ((after_at x a p).worker w) l ≡ worker_of_acts (worker_after (x.worker w) a) l)
        (sym (same_node-true q (nodes.Worker w) e)) (ap (λ y. worker_of_acts y l) (put_row-same w (worker_after (x.worker w) a) x.worker))
    by (nodes.Shard r) false e = refl
    by (nodes.Worker v) false e = ap (λ y. worker_of_acts y l)
        (put_row-other v w (worker_after (x.worker v) a) x.worker (λ k. same_node-false (nodes.Worker v) (nodes.Worker w) e (ap nodes.Worker k)))
