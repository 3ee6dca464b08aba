-- What of the store the rule of a step looks at: only this is asked for, so that a step costs nothing that it can do
-- without.
-- Cited by Enough, read_set.rt, specs/auxiliary/Reading; other crates.
use Rattle.std.specs.Prelude.{ℕ, ◌==◌, Bool, true, false, ◌&&◌, if◌then◌else◌, List, [], ◌∷◌, Option, None, Some}
use Rattle.kt_tuple.specs.declared.node.NodeId.{NodeId}
use Rattle.kt_vote.specs.declared.asker.Asker.{Asker}
use Rattle.kt_vote.specs.Poll.{Poll}
use Rattle.kt_state.specs.declared.message.Message.{Message}
use Rattle.kt_state.specs.declared.message.Message.TheVariants as messages
use Rattle.kt_state.specs.declared.stored.Stored.{Stored}
use Rattle.kt_state.specs.declared.node.Mode.{Mode}
use Rattle.kt_state.specs.declared.node.Mode.TheVariants as modes
use Rattle.kt_state.specs.Node.{mode_of, poll_of}
use Rattle.kt_scenario.specs.declared.step.Step.{Step}
use Rattle.kt_scenario.specs.declared.step.Step.TheVariants.{Issue, Repeat, Deliver, Take, Serve, Check, Decide}
use Rattle.kt_scenario.specs.declared.step.Step.TheVariants.{Abandon}
use Rattle.kt_scenario.specs.declared.step.Step.TheVariants.{Learn, Fail, Restart}
use Rattle.kt_model.specs.declared.read_set.ReadSet.{ReadSet}
use Rattle.kt_model.specs.declared.read_set.VerdictQuery.TheVariants as queries
use Rattle.kt_model.specs.declared.store_reads.StoreReads.{StoreReads}
use Rattle.kt_scenario.specs.Scene.{is_in_scene}
use Rattle.kt_model.specs.State.{State, link, view}

-- ---- what is told where only this is asked for

abbrev pub nothing_stored : Stored
nothing_stored = record { incarnation = 1; permanent = None }

abbrev pub no_reads : StoreReads
no_reads = record {
  verdict = None;
  permanent = None;
  tentative = None;
  stored = nothing_stored;
  undecided = None;
  next = 1;
}

-- ---- what the rule of each step needs

abbrev pub empty_read_set : ReadSet
empty_read_set = record {
  verdict = queries.Nothing;
  permanent = false;
  tentative = false;
  stored = false;
  undecided = false;
  next = false;
}

-- an ask of this instance comes, and the node is not down: its verdict and the headers of both checkpoints
abbrev pub for_ask : ℕ → Mode → ReadSet
for_ask instance modes.Down = empty_read_set
for_ask instance mode = record empty_read_set { verdict = queries.Of instance; permanent = true; tentative = true }

-- a participant of a rollback is told Yes: the permanent checkpoint
abbrev pub if_participant : Bool → Option Asker → ReadSet
if_participant is_loading None = empty_read_set
if_participant is_loading (Some parent) = record empty_read_set { stored = is_loading }

abbrev pub for_verdict : ℕ → Bool → Mode → Option Poll → ReadSet
for_verdict instance agreed modes.Rolling (Some b) = if_participant ((b.instance == instance) && agreed) b.parent
for_verdict instance agreed mode poll = empty_read_set

abbrev pub for_message : Message → Mode → Option Poll → ReadSet
for_message (messages.App app) mode poll = empty_read_set
for_message (messages.CheckAsk ask) mode poll = for_ask ask.instance mode
for_message (messages.RollAsk ask) mode poll = for_ask ask.instance mode
for_message (messages.Vote vote) mode poll = empty_read_set
for_message (messages.Verdict instance agreed) mode poll = for_verdict instance agreed mode poll

abbrev pub for_first : List Message → Mode → Option Poll → ReadSet
for_first [] mode poll = empty_read_set
for_first (message ∷ later) mode poll = for_message message mode poll

-- a node that is up begins a check: the next number, and the header of the permanent checkpoint
abbrev pub for_check : Mode → ReadSet
for_check modes.Up = record empty_read_set { permanent = true; next = true }
for_check mode = empty_read_set

-- who began the ballot's instance asks after it
abbrev pub if_initiator : Poll → Option Asker → ReadSet
if_initiator b None = record empty_read_set { verdict = queries.Of b.instance }
if_initiator b (Some parent) = empty_read_set

abbrev pub for_decide : Option Poll → ReadSet
for_decide None = empty_read_set
for_decide (Some b) = if_initiator b b.parent

-- a node that is down asks for the open instance that it began
abbrev pub for_abandon : Mode → Option Poll → ReadSet
for_abandon modes.Down poll = record empty_read_set { undecided = true }
for_abandon mode poll = for_decide poll

-- a held node asks after its ballot's instance, a participant of a rollback for its permanent checkpoint too; one that
-- is down for all that is stored of it
abbrev pub if_learner : Poll → Option Asker → ReadSet
if_learner b None = empty_read_set
if_learner b (Some parent) = record empty_read_set { verdict = queries.Of b.instance; stored = true }

abbrev pub for_learn : Mode → Option Poll → ReadSet
for_learn modes.Down poll = record empty_read_set { verdict = queries.OfTentative; tentative = true; stored = true }
for_learn modes.Held (Some b) = record empty_read_set { verdict = queries.Of b.instance }
for_learn modes.Rolling (Some b) = if_learner b b.parent
for_learn mode poll = empty_read_set

-- the headers of both checkpoints, and the verdict on the tentative one
abbrev pub for_fail : Mode → ReadSet
for_fail modes.Down = empty_read_set
for_fail mode = record empty_read_set { verdict = queries.OfTentative; permanent = true; tentative = true }

-- the permanent checkpoint and the next number; of one that is down what may stand in the way, of who began a
-- rollback its verdict
abbrev pub if_restarter : Poll → Option Asker → ReadSet
if_restarter b None = record empty_read_set { verdict = queries.Of b.instance; stored = true; next = true }
if_restarter b (Some parent) = empty_read_set

abbrev pub for_restart : Mode → Option Poll → ReadSet
for_restart modes.Down poll = record empty_read_set { tentative = true; stored = true; undecided = true; next = true }
for_restart modes.Rolling (Some b) = if_restarter b b.parent
for_restart mode poll = empty_read_set

abbrev pub mode_at : State → NodeId → Mode
mode_at s p = mode_of (view s p).node

abbrev pub poll_at : State → NodeId → Option Poll
poll_at s p = poll_of (view s p).node

-- of a step that names nodes of the scene
abbrev pub read_set_in : State → Step → ReadSet
read_set_in s (Issue p) = empty_read_set
read_set_in s (Repeat p) = empty_read_set
read_set_in s (Deliver p q) = for_first (link s p q) (mode_at s q) (poll_at s q)
read_set_in s (Take p) = empty_read_set
read_set_in s (Serve p w place) = empty_read_set
read_set_in s (Check p) = for_check (mode_at s p)
read_set_in s (Decide p) = for_decide (poll_at s p)
read_set_in s (Abandon p) = for_abandon (mode_at s p) (poll_at s p)
read_set_in s (Learn p) = for_learn (mode_at s p) (poll_at s p)
read_set_in s (Fail p) = for_fail (mode_at s p)
read_set_in s (Restart p) = for_restart (mode_at s p) (poll_at s p)

abbrev pub read_set_of : State → Step → ReadSet
read_set_of s step = if is_in_scene s.scene step then read_set_in s step else empty_read_set
