-- Tables of version 1 that hold a content, and what it is to carry them over.
-- Cited by CarryLemmas, OldLemmas, TabledLemmas, carrying.rt, old.rt, specs/auxiliary/OldRows,
--   `carrying::all_cells_of`, `old::are_old_rows`, `old::are_old`, `old::holds_nodes`; other crates.
use Rattle.std.specs.Prelude.{◌≤◌, List, [], ◌∷◌, Option, None, Some, ⊤, IsTrue}
use Rattle.sqlite.specs.declared.types.Value.{Value}
use Rattle.sqlite.specs.declared.types.Value.TheVariants.{Blob}
use Rattle.sqlite.specs.Values.{or_null}
use Rattle.sqlite.specs.Order.{Row}
use Rattle.sqlite.specs.Tree.{Trees}
use Rattle.sqlite.specs.Effect.{Database}
use Rattle.sqlite.specs.State.{State}
use Rattle.kt_ckpt.specs.declared.ckpt.Ckpt.{Ckpt}
use Rattle.kt_ckpt.specs.Old.{spelling_old}
use Rattle.kt_ckpt.specs.OldLimits.{is_old}
use Rattle.kt_store.specs.declared.rows.NodeRow.{NodeRow}
use Rattle.kt_store.specs.Content.{Content, greatest}
use Rattle.kt_tuple.specs.Node.{is_before}
use Rattle.kt_sql_tables.specs.Opened.{IsOldVersion, IsThisVersion}
use Rattle.kt_sql_tables.specs.Rows.{whole, id_of, instance_value, node_shown, taken_checkpoint, taken_instance}
use Rattle.kt_sql_tables.specs.Rows.{HasId, IsLow, Holds, HoldsRows, HoldsBoard}
use Rattle.kt_sql_tables.specs.Settled.{IsSettled}
use Rattle.kt_sql_tables.specs.Stored.{IsStoreOf}

-- the bytes of a checkpoint in format 1, which has no acts
abbrev pub spelled_old : Option Ckpt → Value
spelled_old = or_null (λ c. Blob (spelling_old c))

-- the row of a node, as a query shows it there
abbrev pub old_given : NodeRow → Row
old_given r =
    whole (id_of r.node) ∷ whole r.incarnation ∷ spelled_old r.permanent ∷ spelled_old (taken_checkpoint r.tentative)
    ∷ instance_value r.tentative ∷ []

-- format 1 can hold it
abbrev pub FitsOld : Option Ckpt → Type 0
FitsOld None = ⊤
FitsOld (Some c) = IsTrue (is_old c)

pub record IsOldRow (r : NodeRow) : Type 0 where
  pub node : HasId r.node
  pub first : 1 ≤ r.incarnation
  pub last : r.incarnation ≤ greatest
  pub permanent : FitsOld r.permanent
  pub tentative : FitsOld (taken_checkpoint r.tentative)
  pub instance : IsLow (taken_instance r.tentative)

abbrev pub HoldsOldNodes : List Row → List NodeRow → Type 0
HoldsOldNodes = HoldsRows old_given node_shown IsOldRow (λ (a b : NodeRow). is_before a.node b.node)

-- the tables are of version 1, and hold just this content, with the acts of its checkpoints left out
pub record IsOldOf (db : Database) (c : Content) : Type 0 where
  pub version : IsOldVersion db
  pub nodes : HoldsOldNodes (db.trees 0) c.nodes
  pub board : HoldsBoard (db.trees 1) c.board

-- the tables that are made of them: those of a store of this content, in the version that is made now
abbrev pub AreNewOf : Trees → Content → Type 0
AreNewOf = IsStoreOf

-- they were carried over, and that is committed
pub record IsCarried (s : State) (c : Content) : Type 0 where
  pub is_open : IsTrue s.is_open
  pub settled : IsSettled s
  pub version : IsThisVersion s.now
  pub holds : Holds s.now.trees c
