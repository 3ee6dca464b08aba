-- The abstract state of a bag.
-- Cited by bag.rt, `Bag::count_matches`, `Bag::get`, `Bag::nth_match_counted`, `Bag::put_reserved`, `Bag::take_nth`,
--   `Bag::tidy`, `bag::copy_of`.
use Rattle.std.specs.Prelude.{Bool, List}
use Rattle.kt_tuple.specs.declared.tuple.Tuple.{Tuple}

-- the tuples in order of arrival, and whether one more takes no memory
pub record Holding : Type 0 where
  pub tuples : List Tuple
  pub has_room : Bool
