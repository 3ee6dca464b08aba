-- How the rows of a store stand in the tables.
-- Cited by AnswerLemmas, CarriedRows, CarriedTables, CarryLemmas, CellLemmas, FoundLemmas, HeldLemmas, OldLemmas,
--   OpenedLemmas, RowLemmas, TableRows, TabledLemmas, WriteLemmas, carrying.rt, cells.rt, firsts.rt, held.rt, ids.rt,
--   old.rt, reads.rt, records.rt, rows.rt, specs/Cells, specs/Held and 18 more; other crates.
use Rattle.std.specs.Prelude.{◌≡◌, ℕ, ◌+◌, ◌-◌, ◌<◌, ◌≤◌, pos, nat_lt, Bool, true, if◌then◌else◌, List, [], ◌∷◌}
use Rattle.std.specs.Prelude.{map, Option, None, Some, Result, Ok, Err, ⊤, IsPermutation}
use Rattle.std.specs.Option.{option_map}
use Rattle.std.specs.List.{AllByRecursion}
use Rattle.std.specs.Ordering.{on, nat_cmp}
use Rattle.std.specs.declared.cmp.Ordering.{Ordering}
use Rattle.sqlite.specs.declared.types.Value.{Value}
use Rattle.sqlite.specs.declared.types.Value.TheVariants.{Null, Int, Real, Text, Blob}
use Rattle.sqlite.specs.Values.{or_null}
use Rattle.sqlite.specs.Order.{Row, column}
use Rattle.sqlite.specs.Tree.{Trees}
use Rattle.sqlite_trees.specs.Tree.{IsAscending}
use Rattle.sqlite_keyed.specs.Lists.{sort_by}
use Rattle.kt_sql_tables.specs.declared.ids.TheConstants.{SHARD_IDS}
use Rattle.kt_tuple.specs.declared.node.NodeId.{NodeId}
use Rattle.kt_tuple.specs.declared.node.NodeId.TheVariants.{Worker, Shard}
use Rattle.kt_ckpt.specs.declared.error.CkptError.{CkptError}
use Rattle.kt_ckpt.specs.Checkpoint.{Checkpoint, IsCheckpoint, spelling, read}
use Rattle.kt_ckpt.specs.declared.ckpt.Ckpt.{Ckpt}
use Rattle.kt_store.specs.declared.rows.NodeRow.{NodeRow}
use Rattle.kt_store.specs.declared.rows.Tentative.{Tentative}
use Rattle.kt_store.specs.declared.rows.InstanceRow.{InstanceRow}
use Rattle.kt_store.specs.declared.rows.Purpose.{Purpose}
use Rattle.kt_store.specs.declared.rows.Purpose.TheVariants.{Check, Rollback}
use Rattle.kt_store.specs.declared.rows.Verdict.{Verdict}
use Rattle.kt_store.specs.declared.rows.Verdict.TheVariants.{Open, Yes, No}
use Rattle.kt_store.specs.Content.{Content, greatest}
use Rattle.kt_tuple.specs.Node.{is_before}
use Rattle.kt_store.specs.Changes.{with_instance_row}

-- ---- numbers

abbrev pub whole : ℕ → Value
whole n = Int (pos n)

-- a worker has its own number, a shard a hundred more
abbrev pub id_of : NodeId → ℕ
id_of (Worker n) = n
id_of (Shard n) = SHARD_IDS + n

abbrev pub node_of : ℕ → NodeId
node_of id = if nat_lt id SHARD_IDS then Worker id else Shard (id - SHARD_IDS)

-- the nodes that have a number there
abbrev pub HasId : NodeId → Type 0
HasId (Worker n) = n < SHARD_IDS
HasId (Shard n) = n < SHARD_IDS

abbrev pub purpose_code : Purpose → ℕ
purpose_code Check = 1
purpose_code Rollback = 2

abbrev pub purpose_of : ℕ → Purpose
purpose_of code = if nat_lt code 2 then Check else Rollback

abbrev pub verdict_code : Verdict → ℕ
verdict_code Open = 0
verdict_code Yes = 1
verdict_code No = 2

abbrev pub verdict_of : ℕ → Verdict
verdict_of code = if nat_lt code 1 then Open else (if nat_lt code 2 then Yes else No)

-- ---- a node

-- the bytes of a checkpoint
unfoldable pub bytes_of : Ckpt → List ℕ
bytes_of c = spelling c

abbrev pub spelled : Option Ckpt → Value
spelled = or_null (λ c. Blob (bytes_of c))

abbrev pub taken_checkpoint : Option Tentative → Option Ckpt
taken_checkpoint = option_map (λ (t : Tentative). t.checkpoint)

abbrev pub taken_instance : Option Tentative → Option ℕ
taken_instance = option_map (λ (t : Tentative). t.instance)

abbrev pub checkpoint_value : Option Tentative → Value
checkpoint_value t = spelled (taken_checkpoint t)

abbrev pub instance_value : Option Tentative → Value
instance_value t = or_null whole (taken_instance t)

-- as it is given to a statement and as a query shows it
abbrev pub node_given : NodeRow → Row
node_given r =
    whole (id_of r.node) ∷ whole r.incarnation ∷ spelled r.permanent ∷ checkpoint_value r.tentative
    ∷ instance_value r.tentative ∷ []

-- what a query shows of a row that the table keeps
abbrev pub node_shown : Row → Row
node_shown r = column r 0 ∷ column r 2 ∷ column r 3 ∷ column r 4 ∷ column r 5 ∷ []

-- ---- an instance

abbrev pub instance_row_given : InstanceRow → Row
instance_row_given p =
    whole p.instance ∷ whole (id_of p.initiator) ∷ whole (purpose_code p.purpose) ∷ whole (verdict_code p.verdict) ∷ []

abbrev pub instance_row_shown : Row → Row
instance_row_shown r = column r 0 ∷ column r 2 ∷ column r 3 ∷ column r 4 ∷ []

-- ---- and back

abbrev pub number_in : Value → ℕ
number_in Null = 0
number_in (Int (pos n)) = n
number_in (Int _) = 0
number_in (Real x) = 0
number_in (Text t) = 0
number_in (Blob b) = 0

abbrev pub when_ok : Result Checkpoint CkptError → Option Ckpt
when_ok (Ok c) = Some c
when_ok (Err e) = None

abbrev pub checkpoint_in : Value → Option Ckpt
checkpoint_in Null = None
checkpoint_in (Int n) = None
checkpoint_in (Real x) = None
checkpoint_in (Text t) = None
checkpoint_in (Blob b) = when_ok (read b)

abbrev pub tentative_of : Option Ckpt → ℕ → Option Tentative
tentative_of None i = None
tentative_of (Some c) i = Some record { instance = i; checkpoint = c }

abbrev pub node_in : Row → NodeRow
node_in r = record {
  node = node_of (number_in (column r 0));
  incarnation = number_in (column r 1);
  permanent = checkpoint_in (column r 2);
  tentative = tentative_of (checkpoint_in (column r 3)) (number_in (column r 4));
}

abbrev pub instance_row_in : Row → InstanceRow
instance_row_in r = record {
  instance = number_in (column r 0);
  initiator = node_of (number_in (column r 1));
  purpose = purpose_of (number_in (column r 2));
  verdict = verdict_of (number_in (column r 3));
}

-- the orders of the two tables
abbrev pub by_node : NodeRow → NodeRow → Ordering
by_node = on (λ (r : NodeRow). id_of r.node) nat_cmp

abbrev pub by_instance : InstanceRow → InstanceRow → Ordering
by_instance = on (λ (p : InstanceRow). p.instance) nat_cmp

-- what the tables hold, each in its order
abbrev pub content_in : Trees → Content
content_in db = record {
  nodes = sort_by by_node (map node_in (map node_shown (db 0)));
  board = sort_by by_instance (map instance_row_in (map instance_row_shown (db 1)));
}

-- ---- the numbers and bytes that are as said

abbrev pub IsSpelled : Option Ckpt → Type 0
IsSpelled None = ⊤
IsSpelled (Some c) = IsCheckpoint c

abbrev pub IsLow : Option ℕ → Type 0
IsLow None = ⊤
IsLow (Some n) = n ≤ greatest

abbrev pub IsTaken : Option Tentative → Type 0
IsTaken t = IsSpelled (taken_checkpoint t) × IsLow (taken_instance t)

pub record IsNodeRow (r : NodeRow) : Type 0 where
  pub node : HasId r.node
  pub first : 1 ≤ r.incarnation
  pub last : r.incarnation ≤ greatest
  pub permanent : IsSpelled r.permanent
  pub tentative : IsTaken r.tentative

pub record IsInstanceRow (p : InstanceRow) : Type 0 where
  pub first : 1 ≤ p.instance
  pub last : p.instance ≤ greatest
  pub initiator : HasId p.initiator

-- these are what a table holds, whose rows stand in some order: each is as said, and they rise by their keys
pub record HoldsRows {X : Type 0} (given : X → Row) (seen : Row → Row) (IsSaid : X → Type 0) (before : X → X → Bool)
    (rows : List Row) (xs : List X) : Type 0 where
  pub shown : IsPermutation (map given xs) (map seen rows)
  pub said : AllByRecursion IsSaid xs
  pub rise : IsAscending (λ (a b : X). before a b ≡ true) xs

abbrev pub HoldsNodes : List Row → List NodeRow → Type 0
HoldsNodes = HoldsRows node_given node_shown IsNodeRow (λ (a b : NodeRow). is_before a.node b.node)

abbrev pub HoldsBoard : List Row → List InstanceRow → Type 0
HoldsBoard = HoldsRows instance_row_given instance_row_shown IsInstanceRow
    (λ (a b : InstanceRow). nat_lt a.instance b.instance)

-- the tables hold this content
pub record Holds (db : Trees) (c : Content) : Type 0 where
  pub nodes : HoldsNodes (db 0) c.nodes
  pub board : HoldsBoard (db 1) c.board

-- each row of the two tables is as said
abbrev pub AreAsSaid : Trees → Type 0
AreAsSaid db = (c : Content) × Holds db c

-- ---- what is read of a row

-- the instance's row is this one
abbrev pub placing : InstanceRow → Content → Content
placing p c = record c { board = with_instance_row p c.board }
