-- The three tables.
-- Cited by AnswerLemmas, CarriedLoop, CarriedRows, CarriedTables, FoundLemmas, ListedLemmas, MadeLemmas, OldLemmas,
--   OpenedLemmas, PutLemmas, ReadLemmas, ReadyLemmas, StateLemmas, TabledLemmas, Texts, WriteLemmas, held.rt, old.rt,
--   opened.rt, ready.rt, schema.rt, specs/Held, specs/Opened, specs/Stored and 7 more; other crates.
use Rattle.std.specs.Prelude.{ℕ, Bool, true, false, List, [], ◌∷◌, codes, Some}
use Rattle.sqlite.specs.Collation.TheVariants.{Binary}
use Rattle.sqlite.specs.Kind.{Kind}
use Rattle.sqlite.specs.Kind.TheVariants.{Integer, Blob}
use Rattle.sqlite.specs.Table.{Table}
use Rattle.sqlite.specs.Schema.{Schema}
use Rattle.sqlite_value.specs.declared.value.Value.TheVariants.{Null}
use Rattle.sqlite_schema.specs.declared.schema.Column.{Column}
use Rattle.sqlite_schema.specs.declared.schema.Stamps.{Stamps}

-- a column of this type
abbrev pub column : List ℕ → Kind → Bool → Column
column name kind not_null = record {
  name = name;
  kind = kind;
  is_strict = true;
  not_null = not_null;
  default = Null;
  collation = Binary;
}

-- no default reads the time
abbrev pub no_stamps : Stamps
no_stamps = record { places = []; terms = []; formats = [] }

-- a table of these columns, the first of which is its key
abbrev pub keyed_table : List ℕ → ℕ → List Column → Table
keyed_table name tree columns = record {
  name = name;
  tree = tree;
  columns = columns;
  key = Some 0;
  primary = 0 ∷ [];
  uniques = [];
  orders = [];
  checks = [];
  references = [];
  computed = [];
  stamps = no_stamps;
  is_counted = false;
}

abbrev pub node_columns : List Column
node_columns =
    column (codes "id") Integer false ∷ column (codes "incarnation") Integer true
    ∷ column (codes "permanent") Blob false
    ∷ column (codes "tentative") Blob false ∷ column (codes "instance") Integer false ∷ []

abbrev pub node_table : Table
node_table = keyed_table (codes "kt_node") 0 node_columns

abbrev pub board_columns : List Column
board_columns =
    column (codes "instance") Integer false ∷ column (codes "initiator") Integer true
    ∷ column (codes "purpose") Integer true
    ∷ column (codes "verdict") Integer true ∷ []

abbrev pub board_table : Table
board_table = keyed_table (codes "kt_board") 1 board_columns

abbrev pub meta_columns : List Column
meta_columns = column (codes "id") Integer false ∷ column (codes "version") Integer true ∷ []

abbrev pub meta_table : Table
meta_table = keyed_table (codes "kt_meta") 2 meta_columns

abbrev pub kt_schema : Schema
kt_schema = record { tables = node_table ∷ board_table ∷ meta_table ∷ []; indexes = []; views = [] }

-- no table at all
abbrev pub no_schema : Schema
no_schema = record { tables = []; indexes = []; views = [] }
