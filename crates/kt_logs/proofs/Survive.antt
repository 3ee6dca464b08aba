-- The acts of a closed choice, and so the survivors, are one run of the sequential space and follow the scripts.
-- Cited by Growth; other crates.
use Rattle.std.proofs.Common.{◌≡◌, ℕ, Bool, Option, List, [], ◌∷◌, ◌++◌, filter, Contains, sym, refl, ap, ◌∙◌, subst, append-nil, IsTrue}
use Rattle.std.proofs.lemmas.List.Elements.{Contains-append_right}
use Rattle.kt_tuple.specs.declared.node.NodeId.{NodeId}
use Rattle.kt_tuple.specs.declared.node.NodeId.TheVariants as nodes
use Rattle.kt_tuple.specs.declared.tuple.Tuple.{Tuple}
use Rattle.kt_tuple.specs.declared.op.Op.{Op}
use Rattle.kt_tuple.specs.declared.op.Answer.{Answer}
use Rattle.kt_tuple.specs.Space.{IsSpaceRun}
use Rattle.kt_history.specs.declared.note.Act.{Act}
use Rattle.kt_history.specs.declared.note.Note.{Note}
use Rattle.kt_history.specs.Log.{log}
use Rattle.kt_history.specs.Survival.{services_of, marked_acts, survives, services}
use Rattle.kt_history.specs.Closed.{IsClosed, acts_at, acts_in_log, own}
use Rattle.kt_history.specs.WellFormed.{CausesComeFirst, IsWellFormed}
use Rattle.kt_history.proofs.Shared.{survives-closed, marked_front, acts_at-append, Contains-here}
use Rattle.kt_logs.specs.Order.{Setting, FollowsScripts}
use Rattle.kt_logs.specs.ShardLog.{MadeShard, ShardLog, shard_after, shard_of_acts, new_shard}
use Rattle.kt_logs.specs.WorkerLog.{MadeWorker, WorkerLog, worker_after}
use Rattle.kt_logs.specs.Legal.{IsLog, AreLegal}
use Rattle.kt_logs.proofs.Homes.{is_home}
use Rattle.kt_logs.proofs.OneRun.{tuples_after, one_run}
use Rattle.kt_logs.proofs.Follows.{follows_scripts}
use Rattle.kt_logs.proofs.Causes.{causes_first}

-- the first acts of a log that a node may make are a log that it may make
WorkerLog-front : (asks : List Answer → Option Op) (w : ℕ) (x : MadeWorker) (acts rest : List Act) → WorkerLog asks w x (acts ++ rest)
    → WorkerLog asks w x acts
WorkerLog-front asks w x [] rest h = tt
WorkerLog-front asks w x (a ∷ acts) rest h = (h.0, WorkerLog-front asks w (worker_after x a) acts rest h.1)

ShardLog-front : (shards s : ℕ) (x : MadeShard) (acts rest : List Act) → ShardLog shards s x (acts ++ rest) → ShardLog shards s x acts
ShardLog-front shards s x [] rest h = tt
ShardLog-front shards s x (a ∷ acts) rest h = (h.0, ShardLog-front shards s (shard_after x a) acts rest h.1)

pub IsLog-front : (setting : Setting) (p : NodeId) (acts rest : List Act) → IsLog setting p (acts ++ rest) → IsLog setting p acts
IsLog-front setting (nodes.Worker w) acts rest h = WorkerLog-front (setting.asks w) w _ acts rest h
IsLog-front setting (nodes.Shard s) acts rest h = ShardLog-front setting.shards s _ acts rest h

-- the marked acts of each node are a log that it may make
pub marked_logs : (setting : Setting) (h : List Note) (marks : ℕ → Bool) → AreLegal setting h → IsClosed h marks → (p : NodeId)
    → IsLog setting p (own p (marked_acts marks h))
marked_logs setting h marks legal closed p =
    let m = marked_front h marks closed p in
    let f = m.is_front in
    let whole : acts_in_log h p ≡ acts_at h f.front ++ acts_at h f.rest = ap (acts_at h) f.split ∙ acts_at-append h f.front f.rest in
    subst (IsLog setting p) (sym m.acts) (IsLog-front setting p (acts_at h f.front) (acts_at h f.rest) (subst (IsLog setting p) whole (legal p)))

-- the tuples that the services of the marked acts lead to
abbrev pub marked_tuples : (ℕ → Bool) → List Note → List Tuple
marked_tuples marks h = tuples_after [] (marked_acts marks h)

-- a closed choice is one run, and the share of each shard is the bag that its marked acts lead to
pub closed_run : (setting : Setting) (h : List Note) (marks : ℕ → Bool) → AreLegal setting h → IsClosed h marks →
    IsSpaceRun (services_of (marked_acts marks h)) (marked_tuples marks h)
    × ((s : ℕ) → filter (is_home setting.shards s) (marked_tuples marks h) ≡ (shard_of_acts new_shard (own (nodes.Shard s) (marked_acts marks h))).bag)
closed_run setting h marks legal closed = one_run setting (marked_acts marks h) (marked_logs setting h marks legal closed)

-- a closed choice follows the scripts
pub closed_order : (setting : Setting) (h : List Note) (marks : ℕ → Bool) → AreLegal setting h → IsWellFormed h → IsClosed h marks
    → FollowsScripts setting (services_of (marked_acts marks h))
closed_order setting h marks legal wf closed =
    follows_scripts setting (marked_acts marks h) (marked_logs setting h marks legal closed) (causes_first h marks wf closed)

-- where all that stands in the log of p is marked, its marked acts are those in its log
pub all_marked : (h : List Note) (marks : ℕ → Bool) → IsClosed h marks → (p : NodeId) → ((n : ℕ) → Contains (log h p) n → IsTrue (marks n))
    → own p (marked_acts marks h) ≡ acts_in_log h p
all_marked h marks closed p all =
    let m = marked_front h marks closed p in
    let f = m.is_front in
    let none : f.rest ≡ [] = none_left f.rest f.unmarked (λ n c. all n (subst (λ l. Contains l n) (sym f.split) (Contains-append_right f.front f.rest n c))) in
    m.acts ∙ ap (acts_at h) (sym (append-nil f.front) ∙ ap (λ l. f.front ++ l) (sym none) ∙ sym f.split)
  where
    none_left : (rest : List ℕ) → ((k : ℕ) → Contains rest k → ¬ IsTrue (marks k)) → ((k : ℕ) → Contains rest k → IsTrue (marks k)) → rest ≡ []
    none_left [] out in' = refl
    none_left (k ∷ rest) out in' = absurd (out k (Contains-here k rest) (in' k (Contains-here k rest)))

-- the tuples that the survivors lead to
abbrev pub surviving_tuples : List Note → List Tuple
surviving_tuples h = marked_tuples (survives h) h

-- the survivors are one run
pub survivors_run : (setting : Setting) (h : List Note) → CausesComeFirst h → AreLegal setting h → IsSpaceRun (services h) (surviving_tuples h)
unfolding services
survivors_run setting h causes legal = (closed_run setting h (survives h) legal (survives-closed h causes)).0

-- the survivors follow the scripts
pub survivors_order : (setting : Setting) (h : List Note) → CausesComeFirst h → IsWellFormed h → AreLegal setting h → FollowsScripts setting (services h)
unfolding services
survivors_order setting h causes wf legal = closed_order setting h (survives h) legal wf (survives-closed h causes)

-- where all remembered acts survive, each shard's share of the run's tuples is the bag that its log leads to
pub survivors_bags : (setting : Setting) (h : List Note) → CausesComeFirst h → AreLegal setting h
    → ((p : NodeId) (n : ℕ) → Contains (log h p) n → IsTrue (survives h n)) →
    (s : ℕ) → filter (is_home setting.shards s) (surviving_tuples h) ≡ (shard_of_acts new_shard (acts_in_log h (nodes.Shard s))).bag
survivors_bags setting h causes legal all s =
    let closed = survives-closed h causes in
    (closed_run setting h (survives h) legal closed).1 s
    ∙ ap (λ l. (shard_of_acts new_shard l).bag) (all_marked h (survives h) closed (nodes.Shard s) (all (nodes.Shard s)))
