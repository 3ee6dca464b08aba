-- What each write of a store makes of its content.
-- Cited by Board, Nodes, OtherInstances, OtherNodes, change.rt, contents.rt, instance_row.rt, laws.rt,
--   specs/auxiliary/Row, store.rt, `Contents::settle`, `FaultStoreCkptStore::begin_restart`,
--   `FaultStoreCkptStore::bump`, `change::change_row`; other crates.
use Rattle.std.specs.Prelude.{ℕ, ◌+◌, nat_lt, Bool, List, ◌∷◌, ◌++◌, filter, Option, None, Some}
use Rattle.kt_tuple.specs.declared.node.NodeId.{NodeId}
use Rattle.kt_ckpt.specs.declared.ckpt.Ckpt.{Ckpt}
use Rattle.kt_store.specs.declared.rows.NodeRow.{NodeRow}
use Rattle.kt_store.specs.declared.rows.Tentative.{Tentative}
use Rattle.kt_store.specs.declared.rows.InstanceRow.{InstanceRow}
use Rattle.kt_store.specs.declared.rows.Purpose.{Purpose}
use Rattle.kt_store.specs.declared.rows.Purpose.TheVariants as purposes
use Rattle.kt_store.specs.declared.rows.Verdict.TheVariants as verdicts
use Rattle.kt_store.specs.Verdict.{verdict_from}
use Rattle.kt_store.specs.Content.{Content, next_instance, instance_row, row_of}
use Rattle.kt_tuple.specs.Node.{is_before}

-- the rows with this one in its place, and with no other of its node
abbrev pub with_row : NodeRow → List NodeRow → List NodeRow
with_row new rows = filter (λ (row : NodeRow). is_before row.node new.node) rows
    ++ new ∷ filter (λ (row : NodeRow). is_before new.node row.node) rows

-- the same of the board
abbrev pub with_instance_row : InstanceRow → List InstanceRow → List InstanceRow
with_instance_row new rows = filter (λ (row : InstanceRow). nat_lt row.instance new.instance) rows
    ++ new ∷ filter (λ (row : InstanceRow). nat_lt new.instance row.instance) rows

-- the node's row is this one
abbrev pub storing : NodeRow → Content → Content
storing new c = record c { nodes = with_row new c.nodes }

-- the next instance is begun by the node
abbrev pub opening : NodeId → Purpose → Content → Content
opening p purpose c = record c {
  board = with_instance_row record {
    instance = next_instance c;
    initiator = p;
    purpose = purpose;
    verdict = verdicts.Open;
  }
      c.board;
}

abbrev pub taken : ℕ → Ckpt → Option Tentative
taken i ckpt = Some record { instance = i; checkpoint = ckpt }

-- the node begins a check: the next instance is its own, and it takes its tentative checkpoint in it
abbrev pub check_begun : NodeId → Ckpt → Content → Content
check_begun p ckpt c =
    opening p purposes.Check (storing record (row_of c p) { tentative = taken (next_instance c) ckpt } c)

-- the node takes its tentative checkpoint in the instance
abbrev pub tentative_put : NodeId → ℕ → Ckpt → Content → Content
tentative_put p i ckpt c = storing record (row_of c p) { tentative = taken i ckpt } c

-- what is permanent then: the tentative one, where there is one
abbrev pub promoted_from : Option Ckpt → Option Tentative → Option Ckpt
promoted_from permanent None = permanent
promoted_from permanent (Some t) = Some t.checkpoint

-- the node's tentative checkpoint becomes permanent
abbrev pub promoted : NodeId → Content → Content
promoted p c =
    storing record
    (row_of c p) { permanent = promoted_from (row_of c p).permanent (row_of c p).tentative; tentative = None } c

-- it is given up
abbrev pub discarded : NodeId → Content → Content
discarded p c = storing record (row_of c p) { tentative = None } c

-- the node is in its next incarnation
abbrev pub bumped : NodeId → Content → Content
bumped p c = storing record (row_of c p) { incarnation = (row_of c p).incarnation + 1 } c

-- the node restarts: its next incarnation begins, and the next instance is its own
abbrev pub restart_begun : NodeId → Content → Content
restart_begun p c = opening p purposes.Rollback (bumped p c)

abbrev pub deciding : Bool → Option InstanceRow → Content → Content
deciding agreed None c = c
deciding agreed (Some row) c = record c {
  board = with_instance_row record row { verdict = verdict_from agreed }
      c.board;
}

-- the instance has its verdict
abbrev pub decided : ℕ → Bool → Content → Content
decided i agreed c = deciding agreed (instance_row c i) c
