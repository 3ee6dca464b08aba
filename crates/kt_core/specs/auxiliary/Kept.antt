-- What a world keeps.
-- Cited by Resumes, Worlds, world.rt, `World::share_shard`.
use Rattle.std.specs.Prelude.{Bool, IsTrue}
use Rattle.kt_model.specs.auxiliary.Ready.{IsReady}
use Rattle.kt_model.specs.Reached.{IsReached}
use Rattle.kt_model.specs.State.{State}
use Rattle.kt_core.specs.World.{beside}

-- the next step can be made, whatever the store answers; and while it is honest, steps have led here
pub record IsWorld (state : State) (is_honest : Bool) : Type 0 where
  pub ready : IsReady (beside state)
  pub reached : IsTrue is_honest → IsReached state
