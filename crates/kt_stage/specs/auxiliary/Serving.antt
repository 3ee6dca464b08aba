-- What a shard does before it serves.
-- Cited by Allowed, locked_journal.rt, policy.rt.
use Rattle.std.specs.Prelude.{if◌then◌else◌, List, Option, None}
use Rattle.kt_tuple.specs.declared.node.NodeId.{NodeId}
use Rattle.kt_scenario.specs.declared.step.Step.{Step}
use Rattle.kt_scenario.specs.Scene.{is_node}
use Rattle.kt_model.specs.State.{State}
use Rattle.kt_scenario.specs.declared.faults.FaultLine.{FaultLine}
use Rattle.kt_stage.specs.Policy.{before_serving, by_rule, first_some}

-- the step of the first rule before that of serving that applies to p, where these fault lines are left
abbrev pub next_before_serving : State → List FaultLine → NodeId → Option Step
next_before_serving s lines p = if is_node s.scene p then first_some (by_rule s lines p) before_serving else None
