-- What format 1 can hold: it knows no bool, and at most 8 places of a tuple, 8 workers and 8 neighbours.
-- Cited by OldCheckpoints, OldFields, OldOps, OldParts, OldRising, OldStates, old.rt, old_parts.rt, old_state.rt,
--   specs/Old; other crates.
use Rattle.std.specs.Prelude.{ℕ, nat_le, Bool, true, false, ◌&&◌, List, length, Option, None, Some}
use Rattle.std.specs.List.{list_all}
use Rattle.kt_tuple.specs.declared.node.NodeId.{NodeId}
use Rattle.kt_tuple.specs.declared.node.NodeId.TheVariants.{Worker, Shard}
use Rattle.kt_tuple.specs.declared.value.Value.{Value}
use Rattle.kt_tuple.specs.declared.value.Value.TheVariants.{Int, Str, Bool as Truth}
use Rattle.kt_tuple.specs.declared.value.Kind.TheVariants as kinds
use Rattle.kt_tuple.specs.declared.template.Place.{Place}
use Rattle.kt_tuple.specs.declared.template.Place.TheVariants.{Actual, Formal}
use Rattle.kt_tuple.specs.declared.op.Op.{Op}
use Rattle.kt_tuple.specs.declared.op.Op.TheVariants.{Out, In, Rd, Inp, Rdp}
use Rattle.kt_tuple.specs.declared.op.Answer.{Answer}
use Rattle.kt_tuple.specs.declared.op.Answer.TheVariants as answers
use Rattle.kt_shard.specs.declared.request.Request.{Request}
use Rattle.kt_shard.specs.declared.request.CachedReply.{CachedReply}
use Rattle.kt_ckpt.specs.declared.state.State.{State}
use Rattle.kt_ckpt.specs.declared.state.State.TheVariants as states
use Rattle.kt_ckpt.specs.declared.old_limits.TheConstants.{OLD_PLACES, OLD_WORKERS, OLD_PEERS}
use Rattle.kt_ckpt.specs.Fields.{WorkerFields, ShardFields}
use Rattle.kt_ckpt.specs.Checkpoint.{Checkpoint}

-- the version that its checkpoints have
abbrev pub old_version : ℕ
old_version = 1

abbrev pub is_old_value : Value → Bool
is_old_value (Int n) = true
is_old_value (Str cs) = true
is_old_value (Truth b) = false

abbrev pub is_old_place : Place → Bool
is_old_place (Actual v) = is_old_value v
is_old_place (Formal kinds.Int) = true
is_old_place (Formal kinds.Str) = true
is_old_place (Formal kinds.Bool) = false

abbrev pub is_old_tuple : List Value → Bool
is_old_tuple values = nat_le (length values) OLD_PLACES && list_all is_old_value values

abbrev pub is_old_template : List Place → Bool
is_old_template places = nat_le (length places) OLD_PLACES && list_all is_old_place places

abbrev pub is_old_op : Op → Bool
is_old_op (Out u) = is_old_tuple u
is_old_op (In t) = is_old_template t
is_old_op (Rd t) = is_old_template t
is_old_op (Inp t) = is_old_template t
is_old_op (Rdp t) = is_old_template t

abbrev pub is_old_answer : Answer → Bool
is_old_answer answers.Done = true
is_old_answer (answers.Got u) = is_old_tuple u
is_old_answer answers.None = true

-- ---- what a worker and a shard hold

abbrev pub is_old_asked : Option Op → Bool
is_old_asked None = true
is_old_asked (Some op) = is_old_op op

abbrev pub is_old_worker : WorkerFields → Bool
is_old_worker w = is_old_asked w.asked && list_all is_old_value w.variables

abbrev pub is_old_request : Request → Bool
is_old_request r = is_old_op r.op

abbrev pub is_old_cached : CachedReply → Bool
is_old_cached k = is_old_request k.request && is_old_answer k.answer

-- it is kept for one of 8 workers
abbrev pub is_old_entry : {X : Type 0} → (X → Bool) → ℕ × X → Bool
is_old_entry holds x = nat_le x.0 OLD_WORKERS && holds x.1

abbrev pub is_old_shard : ShardFields → Bool
is_old_shard s =
    list_all is_old_tuple s.bag
    && (list_all (is_old_entry is_old_request) s.waiting && list_all (is_old_entry is_old_cached) s.cached)

abbrev pub is_old_state : State → Bool
is_old_state (states.Worker w) = is_old_worker w
is_old_state (states.Shard s) = is_old_shard s

-- ---- a checkpoint

abbrev pub is_old_node : NodeId → Bool
is_old_node (Worker i) = nat_le i OLD_WORKERS
is_old_node (Shard i) = true

-- format 1 can hold it, its acts aside
abbrev pub is_old : Checkpoint → Bool
is_old c = is_old_node c.node && (nat_le (length c.sent) OLD_PEERS && is_old_state c.state)
