-- The services of all nodes together are one run of the sequential space, and each shard's bag is its share of the tuples.
-- Cited by Survive.
use Rattle.std.proofs.Common.{◌≡◌, ◌≢◌, ℕ, Option, List, [], ◌∷◌, filter, sym, refl, ap, ◌∙◌, subst}
use Rattle.std.specs.List.{cons_option}
use Rattle.std.proofs.lemmas.List.Sorted.{IsPermutation-refl}
use Rattle.kt_tuple.specs.declared.node.NodeId.{NodeId}
use Rattle.kt_tuple.specs.declared.node.NodeId.TheVariants as nodes
use Rattle.kt_tuple.specs.declared.tuple.Tuple.{Tuple}
use Rattle.kt_tuple.specs.declared.op.Op.{Op}
use Rattle.kt_tuple.specs.declared.op.Answer.{Answer}
use Rattle.kt_tuple.specs.declared.service.Service.{Service}
use Rattle.kt_tuple.specs.Signature.{kinds_of_op, shard_of}
use Rattle.kt_tuple.specs.Space.{SpaceStep, RunsFrom, IsSpaceRun}
use Rattle.kt_history.specs.declared.note.Act.{Act}
use Rattle.kt_history.specs.declared.note.What.{What}
use Rattle.kt_history.specs.declared.note.What.TheVariants as whats
use Rattle.kt_history.specs.Survival.{service_of, services_of}
use Rattle.kt_history.specs.Closed.{own}
use Rattle.kt_shard.specs.declared.session.Session.{Session}
use Rattle.kt_logs.specs.Bag.{served_bag}
use Rattle.kt_logs.specs.Order.{Setting}
use Rattle.kt_logs.specs.ShardLog.{MadeShard, ShardMay, bag_after, shard_after, shard_of_acts, new_shard}
use Rattle.kt_logs.specs.WorkerLog.{MadeWorker, WorkerMay}
use Rattle.kt_logs.specs.Legal.{IsLog}
use Rattle.kt_logs.proofs.Homes.{is_home, step_of_all, share_at_home, share_elsewhere}
use Rattle.kt_logs.proofs.Numbered.{put_row_holds}
use Rattle.kt_logs.proofs.Merge.{World, new_world, after_at, world_after, Makes, Runs, world_of_acts, merge, shard_in_world}

-- the act, of this kind, leads from these tuples to those that it leaves
abbrev Steps : List Tuple → Act → What → Type 0
Steps all a (whats.Served answer) = SpaceStep all a.op answer (served_bag all a.op answer)
Steps all a _ = Unit {0}

runs_on : (all : List Tuple) (a : Act) (what : What) (later : List Service) (tuples : List Tuple) → Steps all a what →
    RunsFrom (bag_after all a what) later tuples → RunsFrom all (cons_option (service_of a what) later) tuples
runs_on all a (whats.Served answer) later tuples h rest = (served_bag all a.op answer, h, rest)
runs_on all a whats.Issue later tuples h rest = rest
runs_on all a _ later tuples h rest = rest

-- a worker's act leaves the space
worker_steps : (all : List Tuple) (asks : List Answer → Option Op) (x : MadeWorker) (a : Act) (what : What) → WorkerMay asks x a what → Steps all a what
    × (bag_after all a what ≡ all)
worker_steps all asks x a (whats.Served answer) h = absurd h
worker_steps all asks x a whats.Issue h = (tt, refl)
worker_steps all asks x a _ h = (tt, refl)

-- a shard's act is a step of the space where the shard's bag is its share
shard_steps : (shards s : ℕ) (all bag : List Tuple) (d : Session) (cause : ℕ) (a : Act) (what : What) → shard_of shards (kinds_of_op a.op) ≡ s →
    filter (is_home shards s) all ≡ bag → ShardMay bag d cause a what → Steps all a what
shard_steps shards s all bag d cause a (whats.Served answer) home share h =
    step_of_all shards s all a.op answer home (subst (λ b. SpaceStep b a.op answer (served_bag b a.op answer)) (sym share) h.2)
shard_steps shards s all bag d cause a whats.Issue home share h = tt
shard_steps shards s all bag d cause a _ home share h = tt

-- its own share then is its bag
share_here : (shards s : ℕ) (all bag : List Tuple) (d : Session) (cause : ℕ) (a : Act) (what : What) → shard_of shards (kinds_of_op a.op) ≡ s →
    filter (is_home shards s) all ≡ bag → ShardMay bag d cause a what → filter (is_home shards s) (bag_after all a what) ≡ bag_after bag a what
share_here shards s all bag d cause a (whats.Served answer) home share h =
    share_at_home shards s all bag a.op answer home h.2 ∙ ap (λ b. served_bag b a.op answer) share
share_here shards s all bag d cause a whats.Issue home share h = share
share_here shards s all bag d cause a _ home share h = share

-- the shares of the others stay
share_there : (shards s i : ℕ) (all bag : List Tuple) (d : Session) (cause : ℕ) (a : Act) (what : What) → shard_of shards (kinds_of_op a.op) ≡ s → s ≢ i →
    ShardMay bag d cause a what → filter (is_home shards i) (bag_after all a what) ≡ filter (is_home shards i) all
share_there shards s i all bag d cause a (whats.Served answer) home off h = share_elsewhere shards s i all bag a.op answer home off h.2
share_there shards s i all bag d cause a whats.Issue home off h = refl
share_there shards s i all bag d cause a _ home off h = refl

-- each shard's bag is its share of these tuples
abbrev pub AreShares : Setting → List Tuple → World → Type 0
AreShares setting all x = (s : ℕ) → filter (is_home setting.shards s) all ≡ (x.shard s).bag

one_act : (setting : Setting) (x : World) (all : List Tuple) (a : Act) (p : NodeId) → AreShares setting all x → Makes setting x a p →
    Steps all a a.what × AreShares setting (bag_after all a a.what) (after_at x a p)
one_act setting x all a (nodes.Worker w) shares h =
    let k = worker_steps all (setting.asks w) (x.worker w) a a.what h.1 in
    (k.0, λ s. ap (filter (is_home setting.shards s)) k.1 ∙ shares s)
one_act setting x all a (nodes.Shard s) shares h = (
  shard_steps setting.shards s all (x.shard s).bag ((x.shard s).session a.worker) ((x.shard s).cause a.worker) a a.what h.0 (shares s) h.1,
  put_row_holds (λ i y. filter (is_home setting.shards i) (bag_after all a a.what) ≡ y.bag) s (shard_after (x.shard s) a) x.shard
      (share_here setting.shards s all (x.shard s).bag ((x.shard s).session a.worker) ((x.shard s).cause a.worker) a a.what h.0 (shares s) h.1)
      (λ i off. share_there setting.shards s i all (x.shard s).bag ((x.shard s).session a.worker) ((x.shard s).cause a.worker) a a.what h.0 off h.1 ∙ shares i),
)

-- the tuples that the acts lead to
abbrev pub tuples_after : List Tuple → List Act → List Tuple
tuples_after all [] = all
tuples_after all (a ∷ later) = tuples_after (bag_after all a a.what) later

run_from : (setting : Setting) (x : World) (all : List Tuple) (acts : List Act) → AreShares setting all x → Runs setting x acts →
    RunsFrom all (services_of acts) (tuples_after all acts) × AreShares setting (tuples_after all acts) (world_of_acts x acts)
run_from setting x all [] shares h = (IsPermutation-refl all, shares)
run_from setting x all (a ∷ later) shares h =
    let k = one_act setting x all a a.node shares h.0 in
    let r = run_from setting (world_after x a) (bag_after all a a.what) later k.1 h.1 in
    (runs_on all a a.what (services_of later) (tuples_after (bag_after all a a.what) later) k.0 r.0, r.1)

-- where each node's own acts are a log that it may make, the services are one run, and each shard's bag is its share
pub one_run : (setting : Setting) (acts : List Act) → ((p : NodeId) → IsLog setting p (own p acts)) →
    IsSpaceRun (services_of acts) (tuples_after [] acts)
    × ((s : ℕ) → filter (is_home setting.shards s) (tuples_after [] acts) ≡ (shard_of_acts new_shard (own (nodes.Shard s) acts)).bag)
one_run setting acts h =
    let r = run_from setting new_world [] acts (λ s. refl) (merge setting acts h) in
    (r.0, λ s. r.1 s ∙ ap (λ (y : MadeShard). y.bag) (shard_in_world new_world acts s))
