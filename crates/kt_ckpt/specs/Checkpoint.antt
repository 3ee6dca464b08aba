-- A checkpoint, its one spelling, and how it is read.
-- Cited by Checkpoints, Front, OldCheckpoints, OldParts, OldStates, Peers, ckpt.rt, decode.rt, encode.rt, old.rt,
--   old_state.rt, specs/Header, specs/Old, specs/OldLimits, `Ckpt::decode_old`, `Ckpt::decode`, `encode::push_peers`;
--   other crates.
use Rattle.std.specs.Prelude.{◌≡◌, ℕ, ◌≤◌, ◌<◌, ◌^◌, ◌==◌, nat_eq, if◌then◌else◌}
use Rattle.std.specs.Prelude.{List, [], ◌∷◌, ◌++◌, length, map, Result, Ok, Err, All}
use Rattle.std.specs.List.{flat_map, zip}
use Rattle.std.specs.Int.{w64, to_be_bytes}
use Rattle.std.specs.Cmp.Lexicographic.{pointwise}
use Rattle.kt_tuple.specs.declared.node.NodeId.{NodeId}
use Rattle.kt_tuple.specs.declared.node.NodeId.TheVariants.{Worker, Shard}
use Rattle.kt_link.specs.declared.label.Label.{Label}
use Rattle.kt_ckpt.specs.declared.error.CkptError.{CkptError}
use Rattle.kt_ckpt.specs.declared.error.CkptError.TheVariants.{Magic, Version, Field, Extra}
use Rattle.kt_ckpt.specs.declared.state.State.{State}
use Rattle.kt_ckpt.specs.declared.state.State.TheVariants as states
use Rattle.kt_ckpt.specs.Limits.{magic, version}
use Rattle.kt_ckpt.specs.declared.limits.TheConstants.{MAX_PEERS}
use Rattle.kt_ckpt.specs.declared.acts.LogAct.{LogAct}
use Rattle.kt_ckpt.specs.Node.{IsNode, node_bytes, node_at}
use Rattle.kt_ckpt.specs.Acts.{IsActOf, IsSpelledAct, act_bytes, act_at}
use Rattle.kt_ckpt.specs.Reading.{◌>>=◌, made, byte_at, bytes_at, byte_within, number_at, list_at}
use Rattle.kt_ckpt.specs.State.{IsWorker, IsShard, IsCountedWorker, IsCountedShard}
use Rattle.kt_ckpt.specs.State.{worker_bytes, shard_bytes, worker_at, shard_at}

-- a node, the length of its log, for each neighbour in node order the last label sent to it and heard from it, and
-- what the node held
pub record Checkpoint : Type 0 where
  pub node : NodeId
  pub line_len : ℕ
  pub sent : List Label
  pub received : List Label
  pub state : State
  pub acts : List LogAct

abbrev pub made_of : NodeId → ℕ → List Label → List Label → State → List LogAct → Checkpoint
made_of node line_len sent received state acts = record {
  node = node;
  line_len = line_len;
  sent = sent;
  received = received;
  state = state;
  acts = acts;
}

-- a worker has a worker's state, a shard a shard's
abbrev pub Suits : NodeId → State → Type 0
Suits (Worker i) (states.Worker w) = Unit {0}
Suits (Worker i) (states.Shard s) = ⊥
Suits (Shard i) (states.Worker w) = ⊥
Suits (Shard i) (states.Shard s) = Unit {0}

abbrev pub IsCountedState : State → Type 0
IsCountedState (states.Worker w) = IsCountedWorker w
IsCountedState (states.Shard s) = IsCountedShard s

-- a neighbour at least and no more than there may be, and for each a label sent and one received
abbrev pub ArePeers : List Label → List Label → Type 0
ArePeers sent received = (1 ≤ length sent) × (length sent ≤ MAX_PEERS) × (length sent ≡ length received)

-- the counts of the format, which a caller keeps
pub record HasCounts (c : Checkpoint) : Type 0 where
  pub node : IsNode c.node
  pub peers : ArePeers c.sent c.received
  pub suits : Suits c.node c.state
  pub state : IsCountedState c.state
  pub long : length c.acts ≡ c.line_len

-- each act may stand in the node's log
abbrev pub HasShape : Checkpoint → Type 0
HasShape c = All (IsActOf c.node) c.acts

abbrev pub IsLabel : Label → Type 0
IsLabel l = (l.incarnation < 2 ^ 64) × (l.count < 2 ^ 64)

-- what of a state has a spelling
abbrev pub IsState : State → Type 0
IsState (states.Worker w) = IsWorker w
IsState (states.Shard s) = IsShard s

-- what has a spelling: all that a program can hold, with the counts of the format
pub record IsCheckpoint (c : Checkpoint) : Type 0 where
  pub node : IsNode c.node
  pub line_len : c.line_len < 2 ^ 64
  pub peers : ArePeers c.sent c.received
  pub sent : All IsLabel c.sent
  pub received : All IsLabel c.received
  pub suits : Suits c.node c.state
  pub state : IsState c.state
  pub long : length c.acts ≡ c.line_len
  pub acts : HasShape c
  pub spelled : All IsSpelledAct c.acts

abbrev pub label_bytes : Label → List ℕ
label_bytes l = to_be_bytes w64 l.incarnation ++ to_be_bytes w64 l.count

-- of one neighbour: the label sent, then the label received
abbrev pub peer_bytes : Label × Label → List ℕ
peer_bytes p = label_bytes p.0 ++ label_bytes p.1

abbrev pub peers_bytes : List (Label × Label) → List ℕ
peers_bytes peers = length peers ∷ flat_map peer_bytes peers

abbrev pub state_bytes : State → List ℕ
state_bytes (states.Worker w) = worker_bytes w
state_bytes (states.Shard s) = shard_bytes s

-- the one spelling of a checkpoint
abbrev pub spelling : Checkpoint → List ℕ
spelling c =
    magic ++ (version ∷ (node_bytes c.node ++ (to_be_bytes w64 c.line_len
    ++ (peers_bytes (zip c.sent c.received) ++ (state_bytes c.state ++ flat_map act_bytes c.acts)))))

-- the magic bytes are one field
unfoldable pub magic_at : List ℕ → Result (List ℕ × List ℕ) CkptError
magic_at bytes = do
  front ← bytes_at 4 bytes
  if pointwise nat_eq front.0 magic then Ok (magic, front.1) else Err Magic

unfoldable pub version_at : List ℕ → Result (ℕ × List ℕ) CkptError
version_at bytes = do
  read ← byte_at bytes
  if read.0 == version then Ok (version, read.1) else Err Version

unfoldable pub label_at : List ℕ → Result (Label × List ℕ) CkptError
label_at bytes = do
  incarnation ← number_at w64 bytes
  count ← number_at w64 incarnation.1
  Ok (record { incarnation = incarnation.0; count = count.0 }, count.1)

unfoldable pub peer_at : List ℕ → Result ((Label × Label) × List ℕ) CkptError
peer_at bytes = do
  sent ← label_at bytes
  received ← label_at sent.1
  Ok ((sent.0, received.0), received.1)

unfoldable pub peers_at : List ℕ → Result (List (Label × Label) × List ℕ) CkptError
peers_at bytes = do
  n ← byte_within 1 MAX_PEERS bytes
  list_at peer_at n.0 n.1

-- the state of this node
unfoldable pub state_at : NodeId → List ℕ → Result (State × List ℕ) CkptError
state_at (Worker i) bytes = made states.Worker (worker_at bytes)
state_at (Shard i) bytes = made states.Shard (shard_at bytes)

abbrev pub checkpoint_of : NodeId → ℕ → List (Label × Label) → State → List LogAct → Checkpoint
checkpoint_of node line_len peers state acts =
    made_of node line_len (map (λ p. p.0) peers) (map (λ p. p.1) peers) state acts

-- a checkpoint, and the bytes behind it
unfoldable pub checkpoint_at : List ℕ → Result (Checkpoint × List ℕ) CkptError
checkpoint_at bytes = do
  front ← magic_at bytes
  version ← version_at front.1
  node ← node_at version.1
  line_len ← number_at w64 node.1
  peers ← peers_at line_len.1
  state ← state_at node.0 peers.1
  acts ← list_at (act_at node.0) line_len.0 state.1
  Ok (checkpoint_of node.0 line_len.0 peers.0 state.0 acts.0, acts.1)

-- a checkpoint is all of the bytes
unfoldable pub read : List ℕ → Result Checkpoint CkptError
read bytes = do
  c ← checkpoint_at bytes
  if length c.1 == 0 then Ok c.0 else Err Extra
