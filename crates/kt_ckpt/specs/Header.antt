-- A checkpoint without its node's state.
-- kt_store,
--   kt_sql_tables, kt_model.
-- Cited by Checkpoints, ckpt.rt, decode.rt, header.rt, `CkptHeader::decode`; other crates.
use Rattle.std.specs.Prelude.{ℕ, List, map, Result, Ok}
use Rattle.std.specs.Int.{w64}
use Rattle.kt_tuple.specs.declared.node.NodeId.{NodeId}
use Rattle.kt_link.specs.declared.label.Label.{Label}
use Rattle.kt_ckpt.specs.declared.error.CkptError.{CkptError}
use Rattle.kt_ckpt.specs.Reading.{◌>>=◌, number_at}
use Rattle.kt_ckpt.specs.Checkpoint.{Checkpoint, magic_at, version_at, peers_at}
use Rattle.kt_ckpt.specs.Node.{node_at}

-- a node, the length of its log, and for each neighbour in node order the last label sent to it and heard from it
pub record HeaderFields : Type 0 where
  pub node : NodeId
  pub line_len : ℕ
  pub sent : List Label
  pub received : List Label

abbrev pub fields_of : NodeId → ℕ → List Label → List Label → HeaderFields
fields_of node line_len sent received = record { node = node; line_len = line_len; sent = sent; received = received }

-- what of a checkpoint is no state
abbrev pub header_of : Checkpoint → HeaderFields
header_of c = fields_of c.node c.line_len c.sent c.received

-- what stands before the state
unfoldable pub header_at : List ℕ → Result HeaderFields CkptError
header_at bytes = do
  front ← magic_at bytes
  version ← version_at front.1
  node ← node_at version.1
  line_len ← number_at w64 node.1
  peers ← peers_at line_len.1
  Ok (fields_of node.0 line_len.0 (map (λ p. p.0) peers.0) (map (λ p. p.1) peers.0))
