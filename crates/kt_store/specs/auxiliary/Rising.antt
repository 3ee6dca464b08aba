-- How a store in memory numbers the rows of its board, and what it keeps to find them.
-- Cited by Numbered, contents.rt, instance_row.rt, `instance_row::add_instance_row`.
use Rattle.std.specs.Prelude.{◌≡◌, ℕ, ◌+◌, List, Some, filter, map}
use Rattle.std.specs.List.{slice_get}
use Rattle.kt_store.specs.declared.rows.InstanceRow.{InstanceRow}
use Rattle.kt_store.specs.declared.instance_row.Opened.{Opened}
use Rattle.kt_store.specs.Verdict.{is_open}

-- the numbers of instances are those from n + 1 on, with none left out
abbrev pub IsNumberedFrom : ℕ → List InstanceRow → Type 0
IsNumberedFrom n board = (k : ℕ) (row : InstanceRow) → slice_get board k ≡ Some row → row.instance ≡ n + k + 1

-- the first row is that of instance 1
abbrev pub IsNumbered : List InstanceRow → Type 0
IsNumbered = IsNumberedFrom 0

-- of an instance without a verdict, what it is found by
abbrev pub opened_of : InstanceRow → Opened
opened_of row = record { instance = row.instance; initiator = row.initiator }

-- the instances without a verdict, in the order of the board
abbrev pub opened : List InstanceRow → List Opened
opened board = map opened_of (filter (λ (row : InstanceRow). is_open row.verdict) board)
