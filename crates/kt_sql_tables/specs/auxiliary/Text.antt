-- The statements of the store, as bytes. Each is letter for letter a literal of src/tables, statements, reads or
-- opened;
-- proofs/Texts proves what each of them asks, its ORDER BY too.
-- Cited by AnswerLemmas, CarriedRows, CarriedTables, FoundLemmas, MadeLemmas, OpenedLemmas, Texts, WriteLemmas,
--   specs/auxiliary/Both, `Tables::find_instance`, `Tables::find_open`, `Tables::rows_of`, `carrying::put_rows`,
--   `old::holds_board`, `old::holds_nodes`.
use Rattle.std.specs.Prelude.{ℕ, List, ◌++◌, codes}

abbrev pub create_node_text : List ℕ
create_node_text =
    codes "CREATE TABLE kt_node (id INTEGER PRIMARY KEY, incarnation INTEGER NOT NULL, permanent BLOB, tentative BLOB, "
    ++ codes "instance INTEGER) STRICT"

abbrev pub create_board_text : List ℕ
create_board_text =
    codes "CREATE TABLE kt_board (instance INTEGER PRIMARY KEY, initiator INTEGER NOT NULL, purpose INTEGER NOT NULL, "
    ++ codes "verdict INTEGER NOT NULL) STRICT"

abbrev pub create_meta_text : List ℕ
create_meta_text = codes "CREATE TABLE kt_meta (id INTEGER PRIMARY KEY, version INTEGER NOT NULL) STRICT"

abbrev pub first_meta_text : List ℕ
first_meta_text = codes "INSERT OR REPLACE INTO kt_meta VALUES (1, 2)"

abbrev pub put_node_text : List ℕ
put_node_text = codes "INSERT OR REPLACE INTO kt_node VALUES (?1, ?2, ?3, ?4, ?5)"

abbrev pub put_instance_row_text : List ℕ
put_instance_row_text = codes "INSERT OR REPLACE INTO kt_board VALUES (?1, ?2, ?3, ?4)"

abbrev pub get_node_text : List ℕ
get_node_text = codes "SELECT id, incarnation, permanent, tentative, instance FROM kt_node WHERE id = ?1 ORDER BY id"

abbrev pub all_nodes_text : List ℕ
all_nodes_text = codes "SELECT id, incarnation, permanent, tentative, instance FROM kt_node ORDER BY id"

abbrev pub all_ids_text : List ℕ
all_ids_text = codes "SELECT id FROM kt_node ORDER BY id"

abbrev pub first_node_text : List ℕ
first_node_text = codes "SELECT id, incarnation, permanent, tentative, instance FROM kt_node ORDER BY id LIMIT 1"

abbrev pub get_instance_row_text : List ℕ
get_instance_row_text =
    codes "SELECT instance, initiator, purpose, verdict FROM kt_board WHERE instance = ?1 ORDER BY instance"

abbrev pub last_instance_row_text : List ℕ
last_instance_row_text = codes
    "SELECT instance, initiator, purpose, verdict FROM kt_board ORDER BY instance DESC LIMIT 1"

abbrev pub open_instance_row_text : List ℕ
open_instance_row_text =
    codes "SELECT instance, initiator, purpose, verdict FROM kt_board WHERE initiator = ?1 AND verdict = 0 "
    ++ codes "ORDER BY instance LIMIT 1"

abbrev pub all_instance_rows_text : List ℕ
all_instance_rows_text = codes "SELECT instance, initiator, purpose, verdict FROM kt_board ORDER BY instance"

abbrev pub meta_text : List ℕ
meta_text = codes "SELECT id, version FROM kt_meta ORDER BY id"
