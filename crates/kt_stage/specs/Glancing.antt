-- What a seat sees of its shard, and whom it proposes to serve by it.
-- Cited by glance.rt.
use Rattle.std.specs.Prelude.{◌≡◌, ℕ, Bool, true, false, if◌then◌else◌, is_ok, length, Option, None, Some}
use Rattle.std.specs.Prelude.{Result, Ok, Err, IfOk, IfErr, IsSome}
use Rattle.kt_tuple.specs.declared.node.NodeId.{NodeId}
use Rattle.kt_tuple.specs.declared.node.NodeId.TheVariants as ids
use Rattle.kt_shard.specs.Shard.{Shard}
use Rattle.kt_shard.specs.Service.{service}
use Rattle.kt_scenario.specs.declared.step.Step.{Step}
use Rattle.kt_scenario.specs.declared.step.Step.TheVariants.{Serve}
use Rattle.kt_model.specs.State.{State}
use Rattle.kt_core.specs.Lent.{shard}
use Rattle.kt_core.specs.World.{WorldModel}
use Rattle.kt_stage.specs.declared.glance.GlanceError.{GlanceError}
use Rattle.kt_stage.specs.declared.glance.GlanceError.TheVariants as refusals
use Rattle.kt_stage.specs.declared.glance.Proposal.{Proposal}
use Rattle.kt_stage.specs.declared.glance.ConfirmError.{ConfirmError}
use Rattle.kt_stage.specs.declared.glance.ConfirmError.TheVariants as confirms
use Rattle.kt_stage.specs.declared.error.ActError.{ActError}
use Rattle.kt_stage.specs.declared.seat.Receipt.{Receipt}
use Rattle.kt_stage.specs.Acting.{IsActedOn}
use Rattle.kt_stage.specs.Journal.{Held, Journal, Replays}

-- the abstract state of a glance: whose it is, the shard as it was, and how many receipts the seat had then
pub record Glance : Type 0 where
  pub node : NodeId
  pub shard : Shard
  pub count : ℕ

abbrev pub is_shard_name : NodeId → Bool
is_shard_name (ids.Worker w) = false
is_shard_name (ids.Shard k) = true

-- ---- looking

-- the node is no shard; or it is one that is not up, and so lends none; else memory was wanting
abbrev pub IsGlanceCause : State → NodeId → GlanceError → Type 0
IsGlanceCause s p refusals.NotShard = is_shard_name p ≡ false
IsGlanceCause s p refusals.NotUp = (is_shard_name p ≡ true) × (shard s p ≡ None)
IsGlanceCause s p refusals.OutOfMemory = (is_shard_name p ≡ true) × IsSome (shard s p)

-- the seat's shard as this state has it
pub record IsSeen (s : State) (seat : Held) (g : Glance) : Type 0 where
  pub node : g.node ≡ seat.node
  pub count : g.count ≡ length seat.receipts
  pub shard : shard s seat.node ≡ Some g.shard

-- the seat looked at the stage while its journal was this, to which its steps led
pub record IsGlance (opening : WorldModel) (seat : Held) (result : Result Glance GlanceError) : Type 0 where
  pub journal : Journal
  pub replays : Replays opening journal.world journal.steps
  pub seen : IfOk result (IsSeen journal.world.state seat)
  pub cause : IfErr result (IsGlanceCause journal.world.state seat.node)

-- ---- proposing

-- the worker waits at the shard with a request that the first match serves
abbrev pub can_serve : Shard → NodeId → Bool
can_serve y (ids.Worker w) = is_ok (service y w 0)
can_serve y (ids.Shard k) = false

-- to serve the worker with the first match, where the shard that was seen can
abbrev pub proposal_of : Glance → NodeId → Option Proposal
proposal_of g w = if can_serve g.shard w then Some (record { step = Serve g.node w 0; count = g.count }) else None

-- ---- confirming

-- what `act` answers, as `confirm` says it
abbrev pub confirmed : Result Receipt ActError → Result Receipt ConfirmError
confirmed (Ok r) = Ok r
confirmed (Err refusal) = Err (confirms.Act refusal)

-- the step was tried as `act` does it
pub record IsConfirmed (opening : WorldModel) (p : NodeId) (step : Step) (result : Result Receipt ConfirmError)
    : Type 0 where
  pub answer : Result Receipt ActError
  pub is : result ≡ confirmed answer
  pub acted : IsActedOn opening p step answer
