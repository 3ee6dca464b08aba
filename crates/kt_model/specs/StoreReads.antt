-- What the store says to the owner of a step, by what it holds.
-- Cited by AllInstanceRows, Backs, CheckLeaves, DownUndamaged, Enough, FailLeaves, Fit, Gives, Holding, Kept,
--   Lasting, Leaves, Newer, OwnRows, QuietLeaves, RollLeaves, Settling, StaysBacked, StepPlans, StepSound, Undamaged,
--   specs/StepPlan, specs/auxiliary/Reading; other crates.
use Rattle.std.specs.Prelude.{List, [], ◌∷◌, Option, None, Some}
use Rattle.std.specs.Option.{option_map}
use Rattle.kt_tuple.specs.declared.node.NodeId.{NodeId}
use Rattle.kt_ckpt.specs.Header.{HeaderFields, header_of}
use Rattle.kt_store.specs.declared.rows.Tentative.{Tentative}
use Rattle.kt_store.specs.declared.rows.Verdict.{Verdict}
use Rattle.kt_store.specs.Content.{Content, next_instance, open_of, permanent_header, row_of, verdict_of, verdict_on}
use Rattle.kt_vote.specs.Poll.{Poll}
use Rattle.kt_state.specs.declared.message.Message.{Message}
use Rattle.kt_state.specs.declared.message.Message.TheVariants as messages
use Rattle.kt_state.specs.declared.stored.Stored.{Stored}
use Rattle.kt_state.specs.Node.{Node, Down, Alive, poll_of}
use Rattle.kt_scenario.specs.declared.step.Step.{Step}
use Rattle.kt_scenario.specs.declared.step.Step.TheVariants.{Deliver, Decide, Abandon, Learn, Fail, Restart}
use Rattle.kt_model.specs.declared.store_reads.StoreReads.{StoreReads}
use Rattle.kt_scenario.specs.Step.{owner}
use Rattle.kt_model.specs.State.{State, link, view}

-- acts and labels of its tentative checkpoint
abbrev pub header_in : Tentative → HeaderFields
header_in t = header_of t.checkpoint

abbrev pub tentative_in : Content → NodeId → Option HeaderFields
tentative_in c p = option_map header_in (row_of c p).tentative

-- its incarnation, and all of its permanent checkpoint
abbrev pub stored_of : Content → NodeId → Stored
stored_of c p = record { incarnation = (row_of c p).incarnation; permanent = (row_of c p).permanent }

-- what the board has of the ballot's instance
abbrev pub of_poll : Content → Option Poll → Option Verdict
of_poll c None = None
of_poll c (Some b) = verdict_of c b.instance

-- what a node can learn: a node that votes of its ballot's instance, one that is down of its tentative checkpoint's
abbrev pub to_learn : Content → NodeId → Node → Option Verdict
to_learn c p Down = verdict_on c (row_of c p).tentative
to_learn c p (Alive n) = of_poll c (poll_of (Alive n))

-- what it has of the instance of an ask
abbrev pub of_ask : Content → Message → Option Verdict
of_ask c (messages.CheckAsk ask) = verdict_of c ask.instance
of_ask c (messages.RollAsk ask) = verdict_of c ask.instance
of_ask c message = None

abbrev pub of_first : Content → List Message → Option Verdict
of_first c [] = None
of_first c (message ∷ later) = of_ask c message

-- what it has of the instance that the rule of the step asks after
abbrev pub verdict_for : State → Step → Option Verdict
verdict_for s (Deliver p q) = of_first s.content (link s p q)
verdict_for s (Decide p) = of_poll s.content (poll_of (view s p).node)
verdict_for s (Abandon p) = of_poll s.content (poll_of (view s p).node)
verdict_for s (Learn p) = to_learn s.content p (view s p).node
verdict_for s (Fail p) = verdict_on s.content (row_of s.content p).tentative
verdict_for s (Restart p) = of_poll s.content (poll_of (view s p).node)
verdict_for s step = None

-- all that a rule can ask for
abbrev pub store_reads : State → Step → StoreReads
store_reads s step = record {
  verdict = verdict_for s step;
  permanent = permanent_header s.content (owner step);
  tentative = tentative_in s.content (owner step);
  stored = stored_of s.content (owner step);
  undecided = open_of s.content (owner step);
  next = next_instance s.content;
}
