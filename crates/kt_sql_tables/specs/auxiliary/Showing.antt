-- How a row is kept, and what is read of one.
-- Cited by AnswerLemmas, FoundLemmas, RowLemmas, TableRows, WriteLemmas, cells.rt, firsts.rt, reads.rt, records.rt,
--   rows.rt, `Tables::rows_of`, `firsts::nodes_of`.
use Rattle.std.specs.Prelude.{◌≡◌, ◌⊎◌, ℕ, List, [], ◌∷◌, Option, None, Some, Result, Ok, Err, IfSome, slice_get}
use Rattle.std.specs.Option.{option_map}
use Rattle.sqlite.specs.declared.types.Value.TheVariants.{Null}
use Rattle.sqlite.specs.Order.{Row, column}
use Rattle.kt_ckpt.specs.Checkpoint.{read}
use Rattle.kt_store.specs.declared.error.StoreError.{StoreError}
use Rattle.kt_store.specs.declared.error.StoreError.TheVariants.{Memory, Damaged}
use Rattle.kt_store.specs.declared.rows.NodeRow.{NodeRow}
use Rattle.kt_store.specs.declared.rows.InstanceRow.{InstanceRow}
use Rattle.kt_store.specs.declared.rows.TentativeHeader.{TentativeHeader}
use Rattle.kt_store.specs.Content.{header_in}
use Rattle.kt_ckpt.specs.Header.{HeaderFields, header_of}
use Rattle.kt_sql_tables.specs.Rows.{whole, id_of, purpose_code, verdict_code, spelled, checkpoint_value}
use Rattle.kt_sql_tables.specs.Rows.{instance_value}
use Rattle.kt_sql_tables.specs.Rows.{node_given, IsNodeRow}

-- as the table keeps it: the key, no value in the key's column, and the other columns
abbrev pub node_stored : NodeRow → Row
node_stored r =
    whole (id_of r.node) ∷ Null ∷ whole r.incarnation ∷ spelled r.permanent ∷ checkpoint_value r.tentative
    ∷ instance_value r.tentative ∷ []

abbrev pub instance_row_stored : InstanceRow → Row
instance_row_stored p =
    whole p.instance ∷ Null ∷ whole (id_of p.initiator) ∷ whole (purpose_code p.purpose)
    ∷ whole (verdict_code p.verdict) ∷ []

-- of a node its key alone, as a query shows it and as one would keep it, and what a query shows of any row
abbrev pub id_given : NodeRow → Row
id_given r = whole (id_of r.node) ∷ []

abbrev pub id_stored : NodeRow → Row
id_stored r = whole (id_of r.node) ∷ Null ∷ []

abbrev pub id_shown : Row → Row
id_shown r = column r 0 ∷ []

-- the row shows this node, column by column
pub record ShowsNode (row : Row) (r : NodeRow) : Type 0 where
  pub id : column row 0 ≡ whole (id_of r.node)
  pub incarnation : column row 1 ≡ whole r.incarnation
  pub permanent : column row 2 ≡ spelled r.permanent
  pub tentative : column row 3 ≡ checkpoint_value r.tentative
  pub instance : column row 4 ≡ instance_value r.tentative

-- the row shows this instance
pub record ShowsInstanceRow (row : Row) (p : InstanceRow) : Type 0 where
  pub instance : column row 0 ≡ whole p.instance
  pub initiator : column row 1 ≡ whole (id_of p.initiator)
  pub purpose : column row 2 ≡ whole (purpose_code p.purpose)
  pub verdict : column row 3 ≡ whole (verdict_code p.verdict)

-- this is read, unless memory runs out
abbrev pub Gives : {X : Type 0} → X → Result X StoreError → Type 0
Gives x (Ok read) = read ≡ x
Gives x (Err e) = e ≡ Memory

-- what is refused for what the row has
abbrev pub IsReadError : StoreError → Type 0
IsReadError e = (e ≡ Memory) ⊎ (e ≡ Damaged)

-- the number of the instance, 0 where there is none
abbrev pub number_of : Option InstanceRow → ℕ
number_of None = 0
number_of (Some p) = p.instance

-- what is stored of a node, where that is a row or nothing: its incarnation, and what its checkpoints say besides
-- their states
abbrev pub incarnation_of : Option NodeRow → ℕ
incarnation_of None = 1
incarnation_of (Some r) = r.incarnation

abbrev pub permanent_of : Option NodeRow → Option HeaderFields
permanent_of None = None
permanent_of (Some r) = option_map header_of r.permanent

abbrev pub tentative_of : Option NodeRow → Option TentativeHeader
tentative_of None = None
tentative_of (Some r) = option_map header_in r.tentative

-- the rows are those of one node: the first shows it, where anything is stored of it
abbrev pub AreRowsOf : Option NodeRow → List Row → Type 0
AreRowsOf o rows = (slice_get rows 0 ≡ option_map node_given o) × IfSome o IsNodeRow
