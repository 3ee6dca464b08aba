-- A checkpoint in format 1: its spelling, which has no acts, and how it is read with the acts of its log handed in.
-- Cited by OldCheckpoints, OldParts, old.rt, `Ckpt::decode_old`, `Ckpt::encode_old`, `old::old_checkpoint_at`; other
--   crates.
use Rattle.std.specs.Prelude.{◌≡◌, ℕ, ◌≤◌, ◌<◌, ◌^◌, ◌==◌, ◌&&◌, if◌then◌else◌}
use Rattle.std.specs.Prelude.{List, [], ◌∷◌, ◌++◌, length, Result, Ok, Err, All, IsTrue}
use Rattle.std.specs.List.{list_all, zip}
use Rattle.std.specs.Int.{w64, to_be_bytes}
use Rattle.kt_tuple.specs.declared.node.NodeId.{NodeId}
use Rattle.kt_tuple.specs.declared.node.NodeId.TheVariants.{Worker, Shard}
use Rattle.kt_tuple.specs.declared.node.TheConstants.{MAX_SHARDS}
use Rattle.kt_link.specs.declared.label.Label.{Label}
use Rattle.kt_ckpt.specs.declared.acts.LogAct.{LogAct}
use Rattle.kt_ckpt.specs.declared.error.CkptError.{CkptError}
use Rattle.kt_ckpt.specs.declared.error.CkptError.TheVariants.{Version, Field, Extra}
use Rattle.kt_ckpt.specs.declared.old_limits.TheConstants.{OLD_WORKERS, OLD_PEERS}
use Rattle.kt_ckpt.specs.Acts.{is_act_of}
use Rattle.kt_ckpt.specs.Checkpoint.{Checkpoint, ArePeers, HasShape, IsLabel, IsState, Suits}
use Rattle.kt_ckpt.specs.Checkpoint.{peers_bytes, state_bytes, magic_at, peer_at, checkpoint_of}
use Rattle.kt_ckpt.specs.Limits.{magic, worker_code, shard_code}
use Rattle.kt_ckpt.specs.Node.{IsNode, node_bytes}
use Rattle.kt_ckpt.specs.OldLimits.{is_old, old_version}
use Rattle.kt_ckpt.specs.OldState.{old_state_at}
use Rattle.kt_ckpt.specs.Reading.{◌>>=◌, made, byte_at, byte_within, number_at, list_at}

-- what has a spelling in format 1: what has one now, within the limits of that format; and whatever its acts hold, they
-- are those that its log may have
pub record IsOldCheckpoint (c : Checkpoint) : Type 0 where
  pub node : IsNode c.node
  pub line_len : c.line_len < 2 ^ 64
  pub peers : ArePeers c.sent c.received
  pub sent : All IsLabel c.sent
  pub received : All IsLabel c.received
  pub suits : Suits c.node c.state
  pub state : IsState c.state
  pub limits : IsTrue (is_old c)
  pub long : length c.acts ≡ c.line_len
  pub acts : HasShape c

-- the one spelling of a checkpoint in format 1
abbrev pub spelling_old : Checkpoint → List ℕ
spelling_old c =
    magic ++ (old_version ∷ (node_bytes c.node ++ (to_be_bytes w64 c.line_len
    ++ (peers_bytes (zip c.sent c.received) ++ state_bytes c.state))))

unfoldable pub old_version_at : List ℕ → Result (ℕ × List ℕ) CkptError
old_version_at bytes = do
  read ← byte_at bytes
  if read.0 == old_version then Ok (old_version, read.1) else Err Version

-- the node behind the code of its kind
abbrev pub old_node_behind : ℕ → List ℕ → Result (NodeId × List ℕ) CkptError
old_node_behind kind bytes =
    if kind == worker_code then made Worker (byte_within 1 OLD_WORKERS bytes)
    else if kind == shard_code then made Shard (byte_within 1 MAX_SHARDS bytes)
    else Err Field

unfoldable pub old_node_at : List ℕ → Result (NodeId × List ℕ) CkptError
old_node_at bytes = do
  kind ← byte_at bytes
  old_node_behind kind.0 kind.1

-- the acts are those of a log of this length of the node
abbrev pub log_if : List LogAct → NodeId → ℕ × List ℕ → Result (ℕ × List ℕ) CkptError
log_if acts node n = if length acts == n.0 && list_all (is_act_of node) acts then Ok n else Err Field

-- the length of the node's log, which the acts are judged by
unfoldable pub log_at : List LogAct → NodeId → List ℕ → Result (ℕ × List ℕ) CkptError
log_at acts node bytes = number_at w64 bytes >>= log_if acts node

unfoldable pub old_peers_at : List ℕ → Result (List (Label × Label) × List ℕ) CkptError
old_peers_at bytes = do
  n ← byte_within 1 OLD_PEERS bytes
  list_at peer_at n.0 n.1

-- a checkpoint with these acts, and the bytes behind it
unfoldable pub old_checkpoint_at : List LogAct → List ℕ → Result (Checkpoint × List ℕ) CkptError
old_checkpoint_at acts bytes = do
  front ← magic_at bytes
  version ← old_version_at front.1
  node ← old_node_at version.1
  line_len ← log_at acts node.0 node.1
  peers ← old_peers_at line_len.1
  state ← old_state_at node.0 peers.1
  Ok (checkpoint_of node.0 line_len.0 peers.0 state.0 acts, state.1)

-- a checkpoint is all of the bytes
unfoldable pub read_old : List LogAct → List ℕ → Result Checkpoint CkptError
read_old acts bytes = do
  c ← old_checkpoint_at acts bytes
  if length c.1 == 0 then Ok c.0 else Err Extra
