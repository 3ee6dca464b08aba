-- One more note keeps logs legal: an act that its node may make, and any cut.
-- Cited by other crates.
use Rattle.std.proofs.Common.{◌≡◌, ℕ, Bool, true, false, Option, List, [], ◌∷◌, ◌++◌, take, drop, take-append-drop, sym, refl, ap, ◌∙◌, subst, append-nil}
use Rattle.kt_tuple.specs.declared.node.NodeId.{NodeId}
use Rattle.kt_tuple.specs.declared.node.NodeId.TheVariants as nodes
use Rattle.kt_tuple.specs.declared.op.Op.{Op}
use Rattle.kt_tuple.specs.declared.op.Answer.{Answer}
use Rattle.kt_history.specs.declared.note.Act.{Act}
use Rattle.kt_history.specs.declared.note.Note.{Note}
use Rattle.kt_history.specs.declared.note.Note.TheVariants as notes
use Rattle.kt_history.specs.Log.{same_node}
use Rattle.kt_history.specs.Closed.{acts_at, acts_in_log}
use Rattle.kt_history.proofs.Shared.{log-empty, same_node-true, acts_in_log-own_act, acts_in_log-other_act, acts_in_log-own_cut, acts_in_log-other_cut}
use Rattle.kt_logs.specs.Order.{Setting}
use Rattle.kt_logs.specs.ShardLog.{MadeShard, ShardMakes, ShardLog, shard_after, shard_of_acts, new_shard}
use Rattle.kt_logs.specs.WorkerLog.{MadeWorker, WorkerMakes, WorkerLog, worker_after, worker_of_acts, new_worker}
use Rattle.kt_logs.specs.Legal.{IsLog, AreLegal}
use Rattle.kt_logs.proofs.Survive.{IsLog-front}

-- how a node's acts grow
pub acts_in_log-empty : (p : NodeId) → acts_in_log [] p ≡ []
acts_in_log-empty p = ap (acts_at []) (log-empty p)

-- a cut leaves the first of them
pub acts_in_log-cut : (h : List Note) (q : NodeId) (keep : ℕ) (p : NodeId) → (lost : List Act)
    × (acts_in_log h p ≡ acts_in_log (h ++ notes.Cut q keep ∷ []) p ++ lost)
acts_in_log-cut h q keep p = by (same_node q p) refl
  where
    by : (r : Bool) → same_node q p ≡ r → (lost : List Act) × (acts_in_log h p ≡ acts_in_log (h ++ notes.Cut q keep ∷ []) p ++ lost)
    by false e = ([], sym (acts_in_log-other_cut h q keep p e) ∙ sym (append-nil (acts_in_log (h ++ notes.Cut q keep ∷ []) p)))
    by true e =
        let kept : acts_in_log (h ++ notes.Cut q keep ∷ []) p ≡ take keep (acts_in_log h p) =
        subst (λ n. acts_in_log (h ++ notes.Cut n keep ∷ []) p ≡ take keep (acts_in_log h p)) (sym (same_node-true q p e)) (acts_in_log-own_cut h p keep) in
        (drop keep (acts_in_log h p), sym (take-append-drop keep (acts_in_log h p)) ∙ ap (λ l. l ++ drop keep (acts_in_log h p)) (sym kept))

-- one more act at the end of a log
WorkerLog-push : (asks : List Answer → Option Op) (w : ℕ) (x : MadeWorker) (acts : List Act) (a : Act) → WorkerLog asks w x acts
    → WorkerMakes asks w (worker_of_acts x acts) a → WorkerLog asks w x (acts ++ a ∷ [])
WorkerLog-push asks w x [] a h m = (m, tt)
WorkerLog-push asks w x (b ∷ acts) a h m = (h.0, WorkerLog-push asks w (worker_after x b) acts a h.1 m)

ShardLog-push : (shards s : ℕ) (x : MadeShard) (acts : List Act) (a : Act) → ShardLog shards s x acts → ShardMakes shards s (shard_of_acts x acts) a
    → ShardLog shards s x (acts ++ a ∷ [])
ShardLog-push shards s x [] a h m = (m, tt)
ShardLog-push shards s x (b ∷ acts) a h m = (h.0, ShardLog-push shards s (shard_after x b) acts a h.1 m)

-- after these acts of its own, the node may make a
abbrev pub MayMake : Setting → NodeId → List Act → Act → Type 0
MayMake setting (nodes.Worker w) acts a = WorkerMakes (setting.asks w) w (worker_of_acts new_worker acts) a
MayMake setting (nodes.Shard s) acts a = ShardMakes setting.shards s (shard_of_acts new_shard acts) a

pub IsLog-push : (setting : Setting) (p : NodeId) (acts : List Act) (a : Act) → IsLog setting p acts → MayMake setting p acts a
    → IsLog setting p (acts ++ a ∷ [])
IsLog-push setting (nodes.Worker w) acts a h m = WorkerLog-push (setting.asks w) w new_worker acts a h m
IsLog-push setting (nodes.Shard s) acts a h m = ShardLog-push setting.shards s new_shard acts a h m

-- the state that one more act leads to
pub worker_of_acts-push : (x : MadeWorker) (acts : List Act) (a : Act) → worker_of_acts x (acts ++ a ∷ []) ≡ worker_after (worker_of_acts x acts) a
worker_of_acts-push x [] a = refl
worker_of_acts-push x (b ∷ acts) a = worker_of_acts-push (worker_after x b) acts a

pub shard_of_acts-push : (x : MadeShard) (acts : List Act) (a : Act) → shard_of_acts x (acts ++ a ∷ []) ≡ shard_after (shard_of_acts x acts) a
shard_of_acts-push x [] a = refl
shard_of_acts-push x (b ∷ acts) a = shard_of_acts-push (shard_after x b) acts a

-- the empty history is legal
pub AreLegal-empty : (setting : Setting) → AreLegal setting []
AreLegal-empty setting (nodes.Worker w) = subst (WorkerLog (setting.asks w) w new_worker) (sym (acts_in_log-empty (nodes.Worker w))) tt
AreLegal-empty setting (nodes.Shard s) = subst (ShardLog setting.shards s new_shard) (sym (acts_in_log-empty (nodes.Shard s))) tt

-- an act that its node may make keeps logs legal
pub AreLegal-act : (setting : Setting) (h : List Note) (a : Act) → AreLegal setting h → MayMake setting a.node (acts_in_log h a.node) a
    → AreLegal setting (h ++ notes.Act a ∷ [])
AreLegal-act setting h a legal m p = by (same_node a.node p) refl
  where
    by : (r : Bool) → same_node a.node p ≡ r → IsLog setting p (acts_in_log (h ++ notes.Act a ∷ []) p)
    by true e = subst (λ q. IsLog setting q (acts_in_log (h ++ notes.Act a ∷ []) q)) (same_node-true a.node p e)
        (subst (IsLog setting a.node) (sym (acts_in_log-own_act h a)) (IsLog-push setting a.node (acts_in_log h a.node) a (legal a.node) m))
    by false e = subst (IsLog setting p) (sym (acts_in_log-other_act h a p e)) (legal p)

-- a cut keeps logs legal
pub AreLegal-cut : (setting : Setting) (h : List Note) (q : NodeId) (keep : ℕ) → AreLegal setting h → AreLegal setting (h ++ notes.Cut q keep ∷ [])
AreLegal-cut setting h q keep legal p =
    let c = acts_in_log-cut h q keep p in
    IsLog-front setting p (acts_in_log (h ++ notes.Cut q keep ∷ []) p) c.0 (subst (IsLog setting p) c.1 (legal p))
