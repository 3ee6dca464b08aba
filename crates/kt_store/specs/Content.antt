-- What a store holds, and what its reads give.
-- kt_sql_tables,
--   kt_model, linda_kt.
-- Cited by Board, Nodes, Numbered, OtherInstances, OtherNodes, change.rt, contents.rt, instance_row.rt, laws.rt,
--   memory.rt, rows.rt, specs/Changes, specs/Others, specs/Proper, specs/Stored, specs/auxiliary/Row, store.rt,
--   `Contents::incarnation_of`, `Contents::next_number`, `Contents::open_instance_of`, `Contents::settle`,
--   `change::change_row`; other crates.
use Rattle.std.specs.Prelude.{◌≡◌, ℕ, ◌+◌, ◌==◌, ◌^◌, max, Bool, true, false, ◌&&◌}
use Rattle.std.specs.Prelude.{List, [], ◌∷◌, map, fold, Option, None, Some}
use Rattle.std.specs.List.{find}
use Rattle.std.specs.Option.{option_map}
use Rattle.kt_tuple.specs.declared.node.NodeId.{NodeId}
use Rattle.kt_tuple.specs.Node.{node_eq}
use Rattle.kt_ckpt.specs.Header.{HeaderFields, header_of}
use Rattle.kt_store.specs.declared.rows.NodeRow.{NodeRow}
use Rattle.kt_store.specs.declared.rows.Tentative.{Tentative}
use Rattle.kt_store.specs.declared.rows.TentativeHeader.{TentativeHeader}
use Rattle.kt_store.specs.declared.rows.InstanceRow.{InstanceRow}
use Rattle.kt_store.specs.declared.rows.Verdict.{Verdict}
use Rattle.kt_store.specs.Verdict.{is_open}

-- rows of nodes in node order, and of instances in the order of their numbers
pub record Content : Type 0 where
  pub nodes : List NodeRow
  pub board : List InstanceRow

-- nothing was ever stored, and no instance was begun
abbrev pub empty_content : Content
empty_content = record { nodes = []; board = [] }

-- the greatest incarnation, and the greatest number of an instance
abbrev pub greatest : ℕ
greatest = 2 ^ 62

-- what is stored of a node: one that has no row is in its first incarnation, and nothing is stored of it
abbrev pub opening_row : NodeId → NodeRow
opening_row p = record { node = p; incarnation = 1; permanent = None; tentative = None }

abbrev pub row_or : NodeId → Option NodeRow → NodeRow
row_or p None = opening_row p
row_or p (Some row) = row

abbrev pub row_of : Content → NodeId → NodeRow
row_of c p = row_or p (find (λ (row : NodeRow). node_eq row.node p) c.nodes)

-- a tentative checkpoint without its node's state
abbrev pub header_in : Tentative → TentativeHeader
header_in t = record { instance = t.instance; header = header_of t.checkpoint }

-- what the stored checkpoints of the node say besides its state
abbrev pub permanent_header : Content → NodeId → Option HeaderFields
permanent_header c p = option_map header_of (row_of c p).permanent

abbrev pub tentative_header : Content → NodeId → Option TentativeHeader
tentative_header c p = option_map header_in (row_of c p).tentative

-- the nodes that have a row, in node order
abbrev pub nodes_in : Content → List NodeId
nodes_in c = map (λ (row : NodeRow). row.node) c.nodes

-- what the board has of an instance, if it was begun
abbrev pub instance_row : Content → ℕ → Option InstanceRow
instance_row c i = find (λ (row : InstanceRow). row.instance == i) c.board

abbrev pub verdict_of : Content → ℕ → Option Verdict
verdict_of c i = option_map (λ (row : InstanceRow). row.verdict) (instance_row c i)

abbrev pub initiator_of : Content → ℕ → Option NodeId
initiator_of c i = option_map (λ (row : InstanceRow). row.initiator) (instance_row c i)

-- the first instance that the node began and that has no verdict
abbrev pub open_of : Content → NodeId → Option ℕ
open_of c p = option_map (λ (row : InstanceRow). row.instance)
    (find (λ (row : InstanceRow). node_eq row.initiator p && is_open row.verdict) c.board)

-- one more than the greatest number of an instance, 1 where there is none
abbrev pub next_instance : Content → ℕ
next_instance c = fold max 0 (map (λ (row : InstanceRow). row.instance) c.board) + 1

abbrev pub is_empty : {A : Type 0} → List A → Bool
is_empty [] = true
is_empty (x ∷ later) = false

-- nothing is stored
abbrev pub is_fresh : Content → Bool
is_fresh c = is_empty c.nodes && is_empty c.board

-- the verdict on the instance of a tentative checkpoint, if there is one
abbrev pub verdict_on : Content → Option Tentative → Option Verdict
verdict_on c None = None
verdict_on c (Some t) = verdict_of c t.instance

-- the node has a tentative checkpoint, and its instance has this verdict
abbrev pub HasVerdict : Content → NodeId → Verdict → Type 0
HasVerdict c p verdict = verdict_on c (row_of c p).tentative ≡ Some verdict
