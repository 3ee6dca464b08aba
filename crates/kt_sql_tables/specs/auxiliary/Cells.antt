-- What is read and written of rows by their cells.
-- Cited by CellLemmas, cells.rt, changes.rt, firsts.rt, held.rt, rows.rt, statements.rt.
use Rattle.std.specs.Prelude.{◌≡◌, ℕ, pos, Option, None, Some, Result, Ok, Err}
use Rattle.sqlite.specs.declared.types.Value.TheVariants.{Int}
use Rattle.sqlite.specs.Values.{or_null}
use Rattle.kt_store.specs.declared.error.StoreError.{StoreError}
use Rattle.kt_store.specs.declared.error.StoreError.TheVariants.{Memory}
use Rattle.kt_store.specs.declared.rows.NodeRow.{NodeRow}
use Rattle.kt_store.specs.declared.rows.InstanceRow.{InstanceRow}
use Rattle.kt_store.specs.declared.rows.Tentative.{Tentative}
use Rattle.kt_sql_tables.specs.declared.number.Number.{Number}
use Rattle.kt_sql_tables.specs.declared.cells.NodeCells.{NodeCells}
use Rattle.kt_sql_tables.specs.declared.cells.InstanceCells.{InstanceCells}
use Rattle.kt_sql_tables.specs.Cells.{SpellsNode}
use Rattle.kt_sql_tables.specs.Rows.{id_of, purpose_code, verdict_code, instance_value}

-- the cells are those of this instance
pub record SpellsInstanceRow (c : InstanceCells) (p : InstanceRow) : Type 0 where
  pub instance : c.instance.value ≡ p.instance
  pub initiator : c.initiator ≡ id_of p.initiator
  pub purpose : c.purpose ≡ purpose_code p.purpose
  pub verdict : c.verdict ≡ verdict_code p.verdict

-- the cells of this node are read, unless memory runs out
abbrev pub GivesCells : NodeRow → Result NodeCells StoreError → Type 0
GivesCells r (Ok c) = SpellsNode c r
GivesCells r (Err e) = e ≡ Memory

-- those of what is stored of the node with this id, where that is a row or nothing
abbrev pub GivesRow : ℕ → Option NodeRow → Result NodeCells StoreError → Type 0
GivesRow id (Some r) result = GivesCells r result
GivesRow id None result = (r : NodeRow) → id ≡ id_of r.node → r.incarnation ≡ 1 → r.permanent ≡ None
    → r.tentative ≡ None → GivesCells r result

-- so is the instance of a tentative checkpoint
abbrev pub GivesInstance : Option Tentative → Result (Option Number) StoreError → Type 0
GivesInstance t (Ok n) = or_null (λ (n : Number). Int (pos n.value)) n ≡ instance_value t
GivesInstance t (Err e) = e ≡ Memory

-- what is permanent then: the second, where it is there
abbrev pub later : {X : Type 0} → Option X → Option X → Option X
later old None = old
later old (Some x) = Some x
