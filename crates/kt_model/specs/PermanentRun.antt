-- What the permanent checkpoints hold.
-- Cited by Lasting, PermanentPart, laws.rt, specs/Headline; other crates.
use Rattle.std.specs.Prelude.{List, IsPermutation}
use Rattle.kt_tuple.specs.declared.tuple.Tuple.{Tuple}
use Rattle.kt_tuple.specs.Space.{IsSpaceRun}
use Rattle.kt_logs.specs.Order.{FollowsScripts}
use Rattle.kt_model.specs.State.{State}
use Rattle.kt_model.specs.Asks.{setting_of}
use Rattle.kt_model.specs.Cut.{part, permanent_length, permanent_tuples}

-- the services under the permanent checkpoints are one run of a sequential space, each worker's requests are its
-- script's, in order, and the checkpoints hold just that run's tuples
pub record IsPermanentRun (s : State) : Type 0 where
  pub tuples : List Tuple
  pub one_run : IsSpaceRun (part s.history (permanent_length s.content)) tuples
  pub in_order : FollowsScripts (setting_of s.scene) (part s.history (permanent_length s.content))
  pub are_held : IsPermutation tuples (permanent_tuples s)
