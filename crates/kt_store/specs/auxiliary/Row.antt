-- What one change makes of a node's row.
-- Cited by Nodes, change.rt, contents.rt, `change::change_row`.
use Rattle.std.specs.Prelude.{◌≤◌, None, Some, ⊤}
use Rattle.kt_store.specs.declared.change.Change.{Change}
use Rattle.kt_store.specs.declared.change.Change.TheVariants.{Incarnation, Take, Promote, Discard}
use Rattle.kt_store.specs.declared.rows.NodeRow.{NodeRow}
use Rattle.kt_store.specs.Content.{greatest}
use Rattle.kt_store.specs.Changes.{promoted_from}

-- the row with the change made, and all else of it as it was
abbrev pub changed : Change → NodeRow → NodeRow
changed (Incarnation n) row = record row { incarnation = n }
changed (Take t) row = record row { tentative = Some t }
changed Promote row = record row { permanent = promoted_from row.permanent row.tentative; tentative = None }
changed Discard row = record row { tentative = None }

-- it brings no incarnation above the greatest
abbrev pub IsWithin : Change → Type 0
IsWithin (Incarnation n) = n ≤ greatest
IsWithin (Take t) = ⊤
IsWithin Promote = ⊤
IsWithin Discard = ⊤
