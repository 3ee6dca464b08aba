-- What is found of the rows while they are tested, one after the other.
-- Cited by OpenedLemmas, opened.rt, records.rt, `opened::answers_said`, `opened::are_said`.
use Rattle.std.specs.Prelude.{◌≡◌, ℕ, ◌<◌, ◌≤◌, List}
use Rattle.std.specs.List.{AllByRecursion}
use Rattle.sqlite.specs.Order.{Row, column}
use Rattle.sqlite_trees.specs.Tree.{IsAscending}
use Rattle.kt_sql_tables.specs.Rows.{number_in}

-- the number in the column of the key
abbrev pub key_of : Row → ℕ
key_of row = number_in (column row 0)

module _ {X : Type 0} (given : X → Row) (IsSaid : X → Type 0) where
  -- the row shows a node, or an instance, that is as said
  abbrev pub IsRowOf : Row → Type 0
  IsRowOf row = (x : X) × IsSaid x × (row ≡ given x)

  -- each of the rows does, and their numbers rise from this one on
  pub record AreRowsFrom (low : ℕ) (rows : List Row) : Type 0 where
    pub said : AllByRecursion IsRowOf rows
    pub above : AllByRecursion (λ (r : Row). low ≤ key_of r) rows
    pub rise : IsAscending (λ (a b : Row). key_of a < key_of b) rows
