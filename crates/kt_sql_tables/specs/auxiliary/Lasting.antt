-- What a statement leaves of a connection that was open.
-- Cited by TabledLemmas, statements.rt; other crates.
use Rattle.std.specs.Prelude.{◌⊎◌, ◌≤◌, ◌+◌, ℕ, IsTrue}
use Rattle.sqlite.specs.State.{HasCleanDisk, State}
use Rattle.sqlite_disk.specs.Disk.{MoreFaults}
use Rattle.sqlite_trees.specs.View.{doubt}

-- only the disk shuts it, and no fault of the disk is forgotten
pub record Lasts (old new : State) : Type 0 where
  pub clean : doubt old.is_clean ≤ doubt new.is_clean
  pub counts : old.faults ≤ new.faults
  pub closes : HasCleanDisk new → IsTrue old.is_open → IsTrue new.is_open ⊎ MoreFaults old.faults new.faults

-- how often the disk failed, and once more where it did not return what was written
abbrev pub failures : State → ℕ
failures s = s.faults + doubt s.is_clean
