-- A node as plain data, and who it is.
-- Cited by change.rt, live.rt, loading.rt, node.rt, specs/Asking, specs/Codes, specs/Kept, specs/Loading,
--   specs/Ready, specs/State, specs/Stored, specs/Updating, specs/Views, specs/auxiliary/Bodies, updating.rt; other
--   crates.
use Rattle.std.specs.Prelude.{ℕ, ◌+◌, List, [], map, Option, None, Some}
use Rattle.kt_tuple.specs.declared.node.NodeId.{NodeId}
use Rattle.kt_tuple.specs.declared.node.NodeId.TheVariants as ids
use Rattle.kt_link.specs.declared.label.Label.{Label}
use Rattle.kt_script.specs.declared.command.Command.{Command}
use Rattle.kt_worker.specs.declared.worker.Worker.{Worker}
use Rattle.kt_worker.specs.WorkerModel.{opening_model}
use Rattle.kt_shard.specs.Shard.{Shard, empty_shard}
use Rattle.kt_vote.specs.Poll.{Poll}
use Rattle.kt_state.specs.declared.message.AppMessage.{AppMessage}
use Rattle.kt_state.specs.declared.live.Phase.{Phase}
use Rattle.kt_state.specs.declared.live.Phase.TheVariants as phases
use Rattle.kt_state.specs.declared.node.Mode.{Mode}
use Rattle.kt_state.specs.declared.node.Mode.TheVariants as modes
pub use Rattle.kt_tuple.specs.Node.{node_number}
use Rattle.kt_state.specs.Labels.{no_labels, no_firsts, numbers}

-- who a node is, which the scene says: its name, how many neighbours it has, and its script (a shard's is empty)
pub record Role : Type 0 where
  pub id : NodeId
  pub peers : ℕ
  pub script : List Command

-- what a node works with
pub data Body : Type 0 where
  IsWorker : Worker → Body
  IsShard : Shard → Body

-- what a node loses when it fails: what it does, with its ballot where it votes; the worker or shard; the incarnation,
-- and how many messages it sent in it; by each neighbour's number the last label sent, the last one received, the
-- first one sent since the permanent checkpoint; the messages that it keeps back, with their senders
pub record Live : Type 0 where
  pub phase : Phase
  pub body : Body
  pub incarnation : ℕ
  pub count : ℕ
  pub sent : List Label
  pub received : List Label
  pub first : List (Option Label)
  pub kept : List (NodeId × AppMessage)

-- a node that is down has its name alone
pub data Node : Type 0 where
  Down : Node
  Alive : Live → Node

-- the node of the other kind with this number
abbrev pub across : NodeId → ℕ → NodeId
across (ids.Worker n) k = ids.Shard k
across (ids.Shard n) k = ids.Worker k

-- all neighbours, in node order
abbrev pub neighbours : Role → List NodeId
neighbours role = map (across role.id) (numbers 1 role.peers)

-- what a node works with at first
abbrev pub opening_body : Role → NodeId → Body
opening_body role (ids.Worker n) = IsWorker (opening_model role.script)
opening_body role (ids.Shard n) = IsShard empty_shard

-- a node that is up with this body and these labels, in this incarnation, and has done nothing since
abbrev pub fresh_live : Phase → ℕ → Body → List Label → List Label → Live
fresh_live phase incarnation body sent received = record {
  phase = phase;
  body = body;
  incarnation = incarnation;
  count = 0;
  sent = sent;
  received = received;
  first = no_firsts;
  kept = [];
}

-- the node with which a world opens
abbrev pub opening_node : Role → Node
opening_node role = Alive (fresh_live phases.Up 1 (opening_body role role.id) no_labels no_labels)

abbrev pub mode_in : Phase → Mode
mode_in phases.Up = modes.Up
mode_in (phases.Held b) = modes.Held
mode_in (phases.Rolling b) = modes.Rolling

abbrev pub mode_of : Node → Mode
mode_of Down = modes.Down
mode_of (Alive n) = mode_in n.phase

-- the label of the next underlying message
abbrev pub next_label : Live → Label
next_label n = record { incarnation = n.incarnation; count = n.count + 1 }

-- the ballot, while the node votes
abbrev pub poll_in : Phase → Option Poll
poll_in phases.Up = None
poll_in (phases.Held b) = Some b
poll_in (phases.Rolling b) = Some b

abbrev pub worker_in : Body → Option Worker
worker_in (IsWorker x) = Some x
worker_in (IsShard y) = None

abbrev pub shard_in : Body → Option Shard
shard_in (IsWorker x) = None
shard_in (IsShard y) = Some y

-- the same of a node, which has nothing of it while it is down
abbrev pub worker_of : Node → Option Worker
worker_of Down = None
worker_of (Alive n) = worker_in n.body

abbrev pub shard_of : Node → Option Shard
shard_of Down = None
shard_of (Alive n) = shard_in n.body

abbrev pub poll_of : Node → Option Poll
poll_of Down = None
poll_of (Alive n) = poll_in n.phase

-- the same phase with another ballot
abbrev pub in_phase : Phase → Poll → Phase
in_phase phases.Up b = phases.Up
in_phase (phases.Held old) b = phases.Held b
in_phase (phases.Rolling old) b = phases.Rolling b
