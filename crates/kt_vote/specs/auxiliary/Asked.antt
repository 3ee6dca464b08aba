-- Who of those that were asked is awaited.
-- Cited by Asked, ballot.rt.
use Rattle.std.specs.Prelude.{List, All, Contains}
use Rattle.kt_tuple.specs.declared.node.NodeId.{NodeId}
use Rattle.kt_vote.specs.Order.{IsInOrder}

-- these were asked, in node order, and those that are awaited are among them
pub record AreAsked (asked awaited : List NodeId) : Type 0 where
  pub in_order : IsInOrder asked
  pub among : All (Contains asked) awaited
