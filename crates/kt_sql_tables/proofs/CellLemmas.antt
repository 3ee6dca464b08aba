-- What the cells of a row say, and what a change of them makes of it.
-- Cited by AnswerLemmas, CarryLemmas, `Tables::cells_of`, `cells::with_tentative`, `changes::bumped`,
--   `changes::discarded`, `changes::promoted`.
use Rattle.std.proofs.Common.{◌≡◌, ℕ, ◌+◌, ◌≤◌, pos, List, Option, None, Some, Result, Ok, Err, IfOk, IfErr, IfSome, refl, sym, ap, subst, ◌∙◌, arith}
use Rattle.sqlite.specs.declared.types.Value.TheVariants.{Int, Blob}
use Rattle.sqlite.specs.Values.{bound_value, or_null}
use Rattle.std.specs.declared.vec.Vec.{Vec}
use Rattle.std.specs.declared.alloc.Global.{Global}
use Rattle.kt_ckpt.specs.declared.ckpt.Ckpt.{Ckpt}
use Rattle.kt_ckpt.specs.Checkpoint.{IsCheckpoint}
use Rattle.kt_tuple.specs.declared.node.NodeId.{NodeId}
use Rattle.kt_store.specs.declared.error.StoreError.{StoreError}
use Rattle.kt_store.specs.declared.error.StoreError.TheVariants.{Memory}
use Rattle.kt_store.specs.declared.rows.NodeRow.{NodeRow}
use Rattle.kt_store.specs.declared.rows.Tentative.{Tentative}
use Rattle.kt_store.specs.Content.{greatest, row_or}
use Rattle.kt_store.specs.Changes.{promoted_from, taken}
use Rattle.kt_sql_tables.specs.declared.number.Number.{Number}
use Rattle.kt_sql_tables.specs.declared.cells.NodeCells.{NodeCells}
use Rattle.kt_sql_tables.specs.Rows.{id_of, HasId, bytes_of, spelled, checkpoint_value, node_in, node_given, IsNodeRow, IsSpelled, IsTaken}
use Rattle.kt_sql_tables.specs.Cells.{cells_given, cells_node, SpellsNode, AreSaid}
use Rattle.kt_sql_tables.specs.auxiliary.Cells.{later, GivesRow}
use Rattle.kt_sql_tables.proofs.RowLemmas.{row_back}

-- as they are given, they are those of the node that they spell
pub spelled_given : (c : NodeCells) (r : NodeRow) → SpellsNode c r → cells_given c ≡ node_given r
spelled_given c r h = rw (h.id, h.incarnation, h.permanent, h.tentative, h.instance) refl

-- a binding leaves them as they are
pub bound_bytes : (o : Option (Vec ℕ Global)) → bound_value (or_null (λ b. Blob b.items) o) ≡ or_null (λ b. Blob b.items) o
bound_bytes None = refl
bound_bytes (Some b) = refl

pub bound_number : (o : Option Number) → bound_value (or_null (λ (n : Number). Int (pos n.value)) o) ≡ or_null (λ (n : Number). Int (pos n.value)) o
bound_number None = refl
bound_number (Some n) = refl

-- they say this node, where it is as said
pub spelled_node : (c : NodeCells) (r : NodeRow) → IsNodeRow r → SpellsNode c r → cells_node c ≡ r
unfolding cells_node
spelled_node c r good h = ap node_in (spelled_given c r h) ∙ row_back r good

pub are_said : (c : NodeCells) (r : NodeRow) → IsNodeRow r → SpellsNode c r → AreSaid c
are_said c r good h =
    let is = sym (spelled_node c r good h) in record { said = subst IsNodeRow is good; spells = subst (SpellsNode c) is h }

-- a change of them is that of the node
pub record Becomes (c : NodeCells) (r : NodeRow) : Type 0 where
  pub said : AreSaid c
  pub value : cells_node c ≡ r

becomes : (c : NodeCells) (r : NodeRow) → IsNodeRow r → SpellsNode c r → Becomes c r
becomes c r good h = record { said = are_said c r good h; value = spelled_node c r good h }

pub discarded_is : (c : NodeCells) → AreSaid c
    → Becomes (record c { tentative = None; instance = None }) (record (cells_node c) { tentative = None })
discarded_is c h =
    becomes _ _
    record { node = h.said.node; first = h.said.first; last = h.said.last; permanent = h.said.permanent; tentative = (tt, tt) }
    record { id = h.spells.id; incarnation = h.spells.incarnation; permanent = h.spells.permanent; tentative = refl; instance = refl }

pub bumped_is : (c : NodeCells) (n : Number) → n.value ≡ c.incarnation.value + 1 → n.value ≤ greatest → AreSaid c
    → Becomes (record c { incarnation = n }) (record (cells_node c) { incarnation = (cells_node c).incarnation + 1 })
bumped_is c n next low h =
    let is = next ∙ ap (λ m. m + 1) h.spells.incarnation in
    becomes _ _
    record { node = h.said.node; first = omega arith; last = subst (λ m. m ≤ greatest) is low; permanent = h.said.permanent; tentative = h.said.tentative }
    record { id = h.spells.id; incarnation = is; permanent = h.spells.permanent; tentative = h.spells.tentative; instance = h.spells.instance }

later_bytes : (permanent tentative : Option (Vec ℕ Global)) (p : Option Ckpt) (t : Option Tentative)
    → or_null (λ b. Blob b.items) permanent ≡ spelled p → or_null (λ b. Blob b.items) tentative ≡ checkpoint_value t
    → or_null (λ b. Blob b.items) (later permanent tentative) ≡ spelled (promoted_from p t)
later_bytes permanent None p None h g = h
later_bytes permanent None p (Some t) h g = absurd cc
later_bytes permanent (Some b) p None h g = absurd cc
later_bytes permanent (Some b) p (Some t) h g = g

promoted_node : (r : NodeRow) → IsNodeRow r → IsNodeRow (record r { permanent = promoted_from r.permanent r.tentative; tentative = None })
promoted_node r h = record { node = h.node; first = h.first; last = h.last; permanent = now r.tentative h.tentative; tentative = (tt, tt) }
  where
    now : (t : Option Tentative) → IsTaken t → IsSpelled (promoted_from r.permanent t)
    now None g = h.permanent
    now (Some t) g = g.0

pub promoted_is : (c : NodeCells) → AreSaid c → Becomes (record c { permanent = later c.permanent c.tentative; tentative = None; instance = None })
    (record (cells_node c) { permanent = promoted_from (cells_node c).permanent (cells_node c).tentative; tentative = None })
promoted_is c h =
    becomes _ _ (promoted_node (cells_node c) h.said)
    record {
      id = h.spells.id;
      incarnation = h.spells.incarnation;
      permanent = later_bytes c.permanent c.tentative (cells_node c).permanent (cells_node c).tentative h.spells.permanent h.spells.tentative;
      tentative = refl;
      instance = refl;
    }

pub taken_is : (c : NodeCells) (bytes : Vec ℕ Global) (n : Number) (ckpt : Ckpt) → n.value ≤ greatest → IsCheckpoint ckpt → bytes.items ≡ bytes_of ckpt
    → AreSaid c → Becomes (record c { tentative = Some bytes; instance = Some n }) (record (cells_node c) { tentative = taken n.value ckpt })
taken_is c bytes n ckpt low good spelt h =
    becomes _ _
    record { node = h.said.node; first = h.said.first; last = h.said.last; permanent = h.said.permanent; tentative = (good, low) }
    record {
      id = h.spells.id;
      incarnation = h.spells.incarnation;
      permanent = h.spells.permanent;
      tentative = ap (λ (b : List ℕ). Blob b) spelt;
      instance = refl;
    }

-- the cells that are read of a node are those of what is stored of it
pub gives_row : (node : NodeId) (id : ℕ) (o : Option NodeRow) (r : Result NodeCells StoreError) → HasId node → id ≡ id_of node → IfSome o IsNodeRow
    → GivesRow id o r → IfOk r (λ c. AreSaid c × (cells_node c ≡ row_or node o)) × IfErr r (λ e. e ≡ Memory)
gives_row node id (Some row) (Ok c) has is good h = ((are_said c row good h, spelled_node c row good h), tt)
gives_row node id (Some row) (Err e) has is good h = (tt, h)
gives_row node id None (Ok c) has is good h =
    let r : NodeRow = row_or node None in
    let fine : IsNodeRow r = record { node = has; first = omega arith; last = omega arith; permanent = tt; tentative = (tt, tt) } in
    let spells = h r is refl refl refl in ((are_said c r fine spells, spelled_node c r fine spells), tt)
gives_row node id None (Err e) has is good h = (tt, h (row_or node None) is refl refl refl)
