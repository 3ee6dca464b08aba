-- What the texts of the store mean.
-- Cited by CarriedRows, FoundLemmas, OldLemmas, OpenedLemmas, ReadLemmas, TableRows, WriteLemmas,
--   `Tables::find_instance`, `Tables::find_open`, `Tables::has_no_instance_row`, `Tables::has_no_node`,
--   `Tables::last_instance`, `Tables::nodes`, `Tables::rows_of`, `old::holds_board`, `old::holds_nodes`,
--   `opened::has_no_row`, `opened::kind_of`, `opened::tested`.
use Rattle.std.proofs.Common.{◌≡◌, pos, negsuc, List, ℕ, ℤ, [], ◌∷◌, codes, true, false, None, refl}
use Rattle.sqlite.specs.declared.types.Value.TheVariants.{Null, Int}
use Rattle.sqlite_value.specs.declared.keys.Key.{Key}
use Rattle.sqlite_value.specs.declared.keys.Collation.TheVariants.{Binary}
use Rattle.sqlite_sql.specs.declared.ops.BinaryOp.TheVariants.{Compare}
use Rattle.sqlite_sql.specs.declared.ops.CompareOp.TheVariants.{Eq}
use Rattle.sqlite.specs.Term.{Term, lit, col, op2}
use Rattle.sqlite.specs.Query.{Query, inner, end}
use Rattle.sqlite.specs.Source.TheVariants.{Values}
use Rattle.sqlite.specs.Command.{Command}
use Rattle.sqlite.specs.Command.TheVariants.{InsertOr, Select}
use Rattle.sqlite_schema.specs.declared.command.Conflict.TheVariants.{Replace}
use Rattle.sqlite_tied.specs.Compute.{everything}
use Rattle.sqlite.specs.Listing.{understood, reads_listing}
use Rattle.sqlite.proofs.Callers.{IsPlain, command_of}
use Rattle.kt_sql_tables.specs.Schema.{kt_schema}
use Rattle.kt_sql_tables.specs.auxiliary.Text.{put_node_text, put_instance_row_text, get_node_text, all_nodes_text, all_ids_text, first_node_text}
use Rattle.kt_sql_tables.specs.auxiliary.Text.{get_instance_row_text, last_instance_row_text}
use Rattle.kt_sql_tables.specs.auxiliary.Text.{open_instance_row_text, all_instance_rows_text, meta_text}

-- ---- writes

abbrev pub node_terms : List Term
node_terms = col 0 0 ∷ lit Null ∷ col 0 1 ∷ col 0 2 ∷ col 0 3 ∷ col 0 4 ∷ []

abbrev pub instance_row_terms : List Term
instance_row_terms = col 0 0 ∷ lit Null ∷ col 0 1 ∷ col 0 2 ∷ col 0 3 ∷ []

abbrev pub put_node : Command
put_node = InsertOr 0 Replace (Values node_terms 6) []

abbrev pub put_instance_row : Command
put_instance_row = InsertOr 1 Replace (Values instance_row_terms 5) []

pub put_node_is : command_of (understood kt_schema put_node_text) ≡ put_node
unfolding understood everything
put_node_is = refl

pub put_node_plain : IsPlain (understood kt_schema put_node_text)
unfolding understood everything
put_node_plain = (refl, refl)

pub put_instance_row_is : command_of (understood kt_schema put_instance_row_text) ≡ put_instance_row
unfolding understood everything
put_instance_row_is = refl

pub put_instance_row_plain : IsPlain (understood kt_schema put_instance_row_text)
unfolding understood everything
put_instance_row_plain = (refl, refl)

-- ---- reads

abbrev pub node_columns : List Term
node_columns = col 1 0 ∷ col 1 2 ∷ col 1 3 ∷ col 1 4 ∷ col 1 5 ∷ []

abbrev pub instance_row_columns : List Term
instance_row_columns = col 1 0 ∷ col 1 2 ∷ col 1 3 ∷ col 1 4 ∷ []

abbrev pub rising : Key
rising = record { collation = Binary; descending = false }

abbrev pub falling : Key
falling = record { collation = Binary; descending = true }

-- the rows of a table that pass these tests, by their keys, and no more than the limit
abbrev pub from_table : ℕ → List Term → List Term → Key → ℤ → Query
from_table tree tests columns key limit = record {
  from = inner tree end;
  filter = tests;
  group = None;
  project = columns;
  distinct = false;
  collations = [];
  order = (col 1 0, key) ∷ [];
  limit = lit (Int limit);
  offset = lit (Int (pos 0));
}

abbrev pub equals : Term → Term → Term
equals = op2 (Compare Eq Binary)

abbrev pub get_node : Query
get_node = from_table 0 (equals (col 1 0) (col 0 0) ∷ []) node_columns rising (negsuc 0)

abbrev pub all_nodes : Query
all_nodes = from_table 0 [] node_columns rising (negsuc 0)

abbrev pub id_columns : List Term
id_columns = col 1 0 ∷ []

abbrev pub all_ids : Query
all_ids = from_table 0 [] id_columns rising (negsuc 0)

abbrev pub first_node : Query
first_node = from_table 0 [] node_columns rising (pos 1)

abbrev pub get_instance_row : Query
get_instance_row = from_table 1 (equals (col 1 0) (col 0 0) ∷ []) instance_row_columns rising (negsuc 0)

abbrev pub last_instance_row : Query
last_instance_row = from_table 1 [] instance_row_columns falling (pos 1)

abbrev pub open_instance_row : Query
open_instance_row =
    from_table 1 (equals (col 1 2) (col 0 0) ∷ equals (col 1 4) (lit (Int (pos 0))) ∷ []) instance_row_columns rising (pos 1)

abbrev pub all_instance_rows : Query
all_instance_rows = from_table 1 [] instance_row_columns rising (negsuc 0)

abbrev pub meta : Query
meta = from_table 2 [] (col 1 0 ∷ col 1 2 ∷ []) rising (negsuc 0)

abbrev pub node_names : List (List ℕ)
node_names = codes "id" ∷ codes "incarnation" ∷ codes "permanent" ∷ codes "tentative" ∷ codes "instance" ∷ []

abbrev pub instance_row_names : List (List ℕ)
instance_row_names = codes "instance" ∷ codes "initiator" ∷ codes "purpose" ∷ codes "verdict" ∷ []

-- the text is a query of the three tables, and not of their list
pub record Asks (sql : List ℕ) (q : Query) (names : List (List ℕ)) : Type 0 where
  pub is : command_of (understood kt_schema sql) ≡ Select (record { lets = []; body = q }) names
  pub own : reads_listing kt_schema sql ≡ false
  pub plain : IsPlain (understood kt_schema sql)

pub get_node_is : Asks get_node_text get_node node_names
unfolding understood everything
get_node_is = record { is = refl; own = refl; plain = (refl, refl) }

pub all_nodes_is : Asks all_nodes_text all_nodes node_names
unfolding understood everything
all_nodes_is = record { is = refl; own = refl; plain = (refl, refl) }

abbrev pub id_names : List (List ℕ)
id_names = codes "id" ∷ []

pub all_ids_is : Asks all_ids_text all_ids id_names
unfolding understood everything
all_ids_is = record { is = refl; own = refl; plain = (refl, refl) }

pub first_node_is : Asks first_node_text first_node node_names
unfolding understood everything
first_node_is = record { is = refl; own = refl; plain = (refl, refl) }

pub get_instance_row_is : Asks get_instance_row_text get_instance_row instance_row_names
unfolding understood everything
get_instance_row_is = record { is = refl; own = refl; plain = (refl, refl) }

pub last_instance_row_is : Asks last_instance_row_text last_instance_row instance_row_names
unfolding understood everything
last_instance_row_is = record { is = refl; own = refl; plain = (refl, refl) }

pub open_instance_row_is : Asks open_instance_row_text open_instance_row instance_row_names
unfolding understood everything
open_instance_row_is = record { is = refl; own = refl; plain = (refl, refl) }

pub all_instance_rows_is : Asks all_instance_rows_text all_instance_rows instance_row_names
unfolding understood everything
all_instance_rows_is = record { is = refl; own = refl; plain = (refl, refl) }

pub meta_is : Asks meta_text meta (codes "id" ∷ codes "version" ∷ [])
unfolding understood everything
meta_is = record { is = refl; own = refl; plain = (refl, refl) }
