-- The arrivals that are left on each link while messages are gone through.
-- Cited by Arriving, arrow.rt, `arrow::arrivals_of`.
use Rattle.std.specs.Prelude.{◌≡◌, ℕ, List, [], ◌∷◌, ◌++◌, drop}
use Rattle.kt_tuple.specs.declared.node.NodeId.{NodeId}
use Rattle.kt_link.specs.Network.{Network, queue}
use Rattle.kt_trace.specs.declared.traced.TracedStep.{TracedStep}
use Rattle.kt_story.specs.Messages.{Sent, arrivals, arrivals_in, sent_on}
use Rattle.kt_story.specs.Story.{StoryModel}

-- the links of so many workers and shards have the arrivals of these rows
pub record HasArrivals (ws ss : ℕ) (rows : List TracedStep) (ways : Network ℕ) : Type 0 where
  pub workers : ways.workers ≡ ws
  pub shards : ways.shards ≡ ss
  pub each : (p q : NodeId) → queue ways p q ≡ arrivals_in ws ss rows p q

-- those of one row more
pub record HasArrived (row : TracedStep) (old new : Network ℕ) : Type 0 where
  pub workers : new.workers ≡ old.workers
  pub shards : new.shards ≡ old.shards
  pub each : (p q : NodeId)
      → queue new p q ≡ queue old p q ++ arrivals_in old.workers old.shards (row ∷ []) p q

-- what is left behind these messages
pub record Waits (story : StoryModel) (earlier : List Sent) (ways : Network ℕ) : Type 0 where
  pub each : (p q : NodeId) → queue ways p q ≡ drop (sent_on p q earlier) (arrivals story p q)
