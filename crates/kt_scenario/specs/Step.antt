-- Whose a step is.
-- Cited by step.rt; other crates.
use Rattle.kt_tuple.specs.declared.node.NodeId.{NodeId}
use Rattle.kt_scenario.specs.declared.step.Step.{Step}
use Rattle.kt_scenario.specs.declared.step.Step.TheVariants.{Issue, Repeat, Deliver, Take, Serve, Check, Decide}
use Rattle.kt_scenario.specs.declared.step.Step.TheVariants.{Abandon}
use Rattle.kt_scenario.specs.declared.step.Step.TheVariants.{Learn, Fail, Restart}

-- a delivery is the receiver's, every other step the first node's
abbrev pub owner : Step → NodeId
owner (Issue p) = p
owner (Repeat p) = p
owner (Deliver p q) = q
owner (Take p) = p
owner (Serve p w k) = p
owner (Check p) = p
owner (Decide p) = p
owner (Abandon p) = p
owner (Learn p) = p
owner (Fail p) = p
owner (Restart p) = p
