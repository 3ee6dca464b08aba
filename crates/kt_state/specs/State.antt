-- What a node works with, as the plain fields of a checkpoint, and back again.
-- Cited by loading.rt, saving.rt, `loading::sessions_of`, `saving::cached_entries`, `saving::waiting_entries`; other
--   crates.
use Rattle.std.specs.Prelude.{ℕ, ◌==◌, nat_le, Bool, ◌&&◌, if◌then◌else◌, List, [], ◌∷◌, map, length}
use Rattle.std.specs.Prelude.{Option, None, Some, is_none, Result, Ok, Err}
use Rattle.std.specs.List.{find, flat_map, list_all}
use Rattle.std.specs.Option.{option_map}
use Rattle.kt_tuple.specs.declared.node.NodeId.{NodeId}
use Rattle.kt_tuple.specs.declared.node.NodeId.TheVariants as ids
use Rattle.kt_worker.specs.WorkerModel.{WorkerModel}
use Rattle.kt_worker.specs.Parts.{model_of, misfit_of}
use Rattle.kt_shard.specs.declared.request.Request.{Request}
use Rattle.kt_shard.specs.declared.request.CachedReply.{CachedReply}
use Rattle.kt_shard.specs.declared.session.Session.{Session}
use Rattle.kt_shard.specs.Limits.{sessions as session_count}
use Rattle.kt_tuple.specs.declared.node.TheConstants.{MAX_WORKERS}
use Rattle.kt_shard.specs.Shard.{Shard, session_of}
use Rattle.kt_ckpt.specs.declared.acts.LogAct.{LogAct}
use Rattle.kt_ckpt.specs.declared.ckpt.Ckpt.{Ckpt}
use Rattle.kt_ckpt.specs.declared.state.State.{State}
use Rattle.kt_ckpt.specs.declared.state.State.TheVariants as states
use Rattle.kt_ckpt.specs.Fields.{WorkerFields, ShardFields}
use Rattle.kt_state.specs.declared.refusal.Refusal.{Refusal}
use Rattle.kt_state.specs.declared.refusal.Refusal.TheVariants as refusals
use Rattle.kt_state.specs.Labels.{listed, numbers}
use Rattle.kt_state.specs.Node.{Role, Body, IsWorker, IsShard, Live, opening_body}

-- ---- into a checkpoint

abbrev pub worker_fields : WorkerModel → WorkerFields
worker_fields w = record {
  pc = w.position.pc;
  number = w.number;
  was_none = w.position.memory.was_none;
  asked = w.asked;
  variables = w.position.memory.values;
}

-- a worker's entry, where there is one
abbrev pub entry : {A : Type 0} → ℕ → Option A → List (ℕ × A)
entry worker None = []
entry worker (Some x) = (worker, x) ∷ []

-- the entries of all workers that there may be, by rising number
abbrev pub entries : {A : Type 0} → (ℕ → Option A) → List (ℕ × A)
entries of = flat_map (λ worker. entry worker (of worker)) (numbers 1 MAX_WORKERS)

abbrev pub shard_fields : Shard → ShardFields
shard_fields y = record {
  bag = y.bag;
  waiting = entries (λ worker. (session_of y worker).waiting);
  cached = entries (λ worker. (session_of y worker).cached);
}

abbrev pub body_fields : Body → State
body_fields (IsWorker x) = states.Worker (worker_fields x)
body_fields (IsShard y) = states.Shard (shard_fields y)

-- the checkpoint of a node that remembers so many acts, these
abbrev pub checkpoint_of : Role → Live → ℕ → List LogAct → Ckpt
checkpoint_of role n line_len acts = record {
  node = role.id;
  line_len = line_len;
  sent = listed role.peers n.sent;
  received = listed role.peers n.received;
  state = body_fields n.body;
  acts = acts;
}

-- ---- and back

-- the worker's entry, if it has one
abbrev pub entry_of : {A : Type 0} → ℕ → List (ℕ × A) → Option A
entry_of worker entries = option_map (λ x. x.1) (find (λ x. x.0 == worker) entries)

abbrev pub session_with : List (ℕ × Request) → List (ℕ × CachedReply) → ℕ → Session
session_with waiting cached worker = record { waiting = entry_of worker waiting; cached = entry_of worker cached }

abbrev pub shard_from : ShardFields → Shard
shard_from y = record { bag = y.bag; sessions = map (session_with y.waiting y.cached) (numbers 0 session_count) }

abbrev pub model_from : WorkerFields → WorkerModel
model_from w = model_of w.number w.asked w.pc w.was_none w.variables

-- the scene has a worker of this number
abbrev pub is_of_scene : ℕ → ℕ → Bool
is_of_scene workers number = nat_le 1 number && nat_le number workers

-- each of these entries is of a worker of the scene
abbrev pub are_of_scene : {A : Type 0} → ℕ → List (ℕ × A) → Bool
are_of_scene workers entries = list_all (λ x. is_of_scene workers x.0) entries

-- a shard of the scene, with no more tuples than it remembers acts
abbrev pub shard_fits : Role → ℕ → ShardFields → Bool
shard_fits role line_len y =
    are_of_scene role.peers y.waiting && are_of_scene role.peers y.cached && nat_le (length y.bag) line_len

-- a worker of the script
abbrev pub worker_fits : Role → WorkerFields → Bool
worker_fits role w = is_none (misfit_of role.script (model_from w))

abbrev pub if_fits : Bool → Body → Result Body Refusal
if_fits fits body = if fits then Ok body else Err refusals.Damaged

abbrev pub worker_from : Role → WorkerFields → Result Body Refusal
worker_from role w = if_fits (worker_fits role w) (IsWorker (model_from w))

-- what a node of this kind works with behind so many acts, if the state is one that it can be in
abbrev pub body_from : Role → ℕ → NodeId → State → Result Body Refusal
body_from role line_len (ids.Worker n) (states.Worker w) = worker_from role w
body_from role line_len (ids.Worker n) (states.Shard y) = Err refusals.Damaged
body_from role line_len (ids.Shard n) (states.Worker w) = Err refusals.Damaged
body_from role line_len (ids.Shard n) (states.Shard y) = if_fits (shard_fits role line_len y) (IsShard (shard_from y))

-- the body with which the node goes on from its permanent checkpoint; nothing stored is the beginning
abbrev pub body_at : Role → Option Ckpt → Result Body Refusal
body_at role None = Ok (opening_body role role.id)
body_at role (Some c) = body_from role c.line_len role.id c.state
