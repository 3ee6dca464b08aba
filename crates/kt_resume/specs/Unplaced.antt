-- The acts of one node that are not placed yet.
-- Cited by Founds, Turned, specs/Turns, specs/auxiliary/Kept, specs/auxiliary/Next, unplaced.rt, `logs::logs_of`,
--   `placing::first_ready`, `placing::place_next`.
use Rattle.std.specs.Prelude.{List}
use Rattle.kt_tuple.specs.declared.node.NodeId.{NodeId}
use Rattle.kt_ckpt.specs.declared.acts.LogAct.{LogAct}

-- whose they are, and the acts in the order of its log
pub record Left : Type 0 where
  pub node : NodeId
  pub acts : List LogAct
