-- The messages of a story: who sent what to whom by which step, and by which step it came. A link is first in, first
-- out: of what was sent on a link, what has so many before it came by the delivery that has as many before it.
-- Cited by Arriving, arrow.rt, specs/auxiliary/Waiting, story.rt, `arrow::checks_in`.
use Rattle.std.specs.Prelude.{ℕ, ◌-◌, Bool, true, false, ◌&&◌, not, is_some, if◌then◌else◌, List, [], ◌∷◌, ◌++◌}
use Rattle.std.specs.Prelude.{filter, length, map, slice_get, slice_index_or, Option, None, Some}
use Rattle.std.specs.List.{filter_map, flat_map}
use Rattle.std.specs.Option.{option_map}
use Rattle.kt_tuple.specs.declared.node.NodeId.{NodeId}
use Rattle.kt_tuple.specs.Node.{node_eq}
use Rattle.kt_link.specs.Network.{place}
use Rattle.kt_history.specs.declared.note.Note.{Note}
use Rattle.kt_history.specs.Log.{note_at}
use Rattle.kt_history.specs.Survival.{survives}
use Rattle.kt_scenario.specs.declared.step.Step.{Step}
use Rattle.kt_scenario.specs.declared.step.Step.TheVariants.{Check, Deliver}
use Rattle.kt_state.specs.declared.message.Message.{Message}
use Rattle.kt_state.specs.declared.message.Message.TheVariants as messages
use Rattle.kt_state.specs.declared.message.Talk.{Talk}
use Rattle.kt_state.specs.declared.message.Talk.TheVariants as talks
use Rattle.kt_trace.specs.declared.traced.TracedStep.{TracedStep}
use Rattle.kt_story.specs.declared.arrow.Arrow.{Arrow}
use Rattle.kt_story.specs.declared.arrow.Kind.{Kind}
use Rattle.kt_story.specs.declared.arrow.Kind.TheVariants as kinds
use Rattle.kt_story.specs.Story.{StoryModel, is_act}

-- ---- what was sent, and what came

-- the row of the step that sent it, to whom, and what it is
abbrev pub Sent : Type 0
Sent = TracedStep × (NodeId × Message)

abbrev pub sent_by : TracedStep → List Sent
sent_by row = map (λ (x : NodeId × Message). (row, x)) row.sent

abbrev pub all_sent : List TracedStep → List Sent
all_sent rows = flat_map sent_by rows

abbrev pub is_pair : NodeId → NodeId → NodeId → NodeId → Bool
is_pair p q a b = node_eq a p && node_eq b q

abbrev pub goes : NodeId → NodeId → Sent → Bool
goes p q x = is_pair p q x.0.node x.1.0

-- how many of these go from p to q
abbrev pub sent_on : NodeId → NodeId → List Sent → ℕ
sent_on p q all = length (filter (goes p q) all)

abbrev pub delivered : NodeId → NodeId → ℕ → Step → Option ℕ
delivered p q number (Deliver a b) = if is_pair p q a b then Some number else None
delivered p q number step = None

-- the number of the row's step, where something came from p to q by it
abbrev pub came_by : NodeId → NodeId → TracedStep → Option ℕ
came_by p q row = delivered p q row.number row.step

-- the steps by which something came from p to q, in order: none where there is no link
abbrev pub arrivals_in : (workers shards : ℕ) → List TracedStep → NodeId → NodeId → List ℕ
arrivals_in workers shards rows p q =
    if is_some (place workers shards p q) then filter_map (came_by p q) rows else []

abbrev pub arrivals : StoryModel → NodeId → NodeId → List ℕ
arrivals story p q = arrivals_in (length story.state.scene.scripts) story.state.scene.shards story.rows p q

-- ---- what a message is

abbrev pub is_check : Step → Bool
is_check (Check p) = true
is_check step = false

-- whether the instance that the row began is a check
abbrev pub begun_check : TracedStep → Option Bool
begun_check row = option_map (λ (instance : ℕ). is_check row.step) row.begun

-- of each instance whether it is a check: instances are numbered from 1 in the order in which they begin
abbrev pub checks_in : List TracedStep → List Bool
checks_in rows = filter_map begun_check rows

abbrev pub check_at : List Bool → ℕ → Bool
check_at checks instance = slice_index_or checks (instance - 1) false

abbrev pub talk_kind : Talk → Kind
talk_kind (talks.Request request) = kinds.Request
talk_kind (talks.Reply request answer) = kinds.Reply

abbrev pub vote_kind : Bool → Kind
vote_kind true = kinds.CheckVote
vote_kind false = kinds.RollVote

abbrev pub verdict_kind : Bool → Kind
verdict_kind true = kinds.CheckVerdict
verdict_kind false = kinds.RollVerdict

abbrev pub kind_of : List Bool → Message → Kind
kind_of checks (messages.App app) = talk_kind app.talk
kind_of checks (messages.CheckAsk ask) = kinds.CheckAsk
kind_of checks (messages.RollAsk ask) = kinds.RollAsk
kind_of checks (messages.Vote vote) = vote_kind (check_at checks vote.instance)
kind_of checks (messages.Verdict instance agreed) = verdict_kind (check_at checks instance)

-- the number names an act that does not survive
abbrev pub act_lost_at : List Note → ℕ → Bool
act_lost_at h n = is_act (note_at h n) && not (survives h n)

-- the act that sent it is lost; of asks, votes and verdicts no act is
abbrev pub sender_lost : List Note → Message → Bool
sender_lost h (messages.App app) = act_lost_at h app.by
sender_lost h message = false

-- ---- the arrows

-- that of a message behind these
abbrev pub arrow_of : StoryModel → List Sent → Sent → Arrow
arrow_of story earlier x = record {
  from = x.0.node;
  to = x.1.0;
  sent = x.0.number;
  came = slice_get (arrivals story x.0.node x.1.0) (sent_on x.0.node x.1.0 earlier);
  kind = kind_of (checks_in story.rows) x.1.1;
  lost = sender_lost story.state.history x.1.1;
}

-- those of the later messages, behind the earlier ones
abbrev pub arrows_behind : StoryModel → List Sent → List Sent → List Arrow
arrows_behind story earlier [] = []
arrows_behind story earlier (x ∷ later) = arrow_of story earlier x ∷ arrows_behind story (earlier ++ x ∷ []) later

-- one for each message, in the order in which they were sent
abbrev pub arrows_of : StoryModel → List Arrow
arrows_of story = arrows_behind story [] (all_sent story.rows)
