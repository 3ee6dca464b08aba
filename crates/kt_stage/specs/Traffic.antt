-- What is sought among the messages that are on their way, and among those that nodes keep back.
-- Cited by specs/Policy, traffic.rt, `traffic::is_kept`, `traffic::is_on_link`.
use Rattle.std.specs.Prelude.{ℕ, ◌==◌, Bool, false, ◌&&◌}
use Rattle.std.specs.List.{list_any}
use Rattle.kt_tuple.specs.declared.node.NodeId.{NodeId}
use Rattle.kt_tuple.specs.Node.{node_eq}
use Rattle.kt_state.specs.declared.message.Ask.{Ask}
use Rattle.kt_state.specs.declared.message.Talk.{Talk}
use Rattle.kt_state.specs.declared.message.Talk.TheVariants as talks
use Rattle.kt_state.specs.declared.message.AppMessage.{AppMessage}
use Rattle.kt_state.specs.declared.message.Message.{Message}
use Rattle.kt_state.specs.declared.message.Message.TheVariants as messages
use Rattle.kt_model.specs.State.{State, link}
use Rattle.kt_core.specs.Lent.{kept}
use Rattle.kt_stage.specs.declared.traffic.Sought.{Sought}
use Rattle.kt_stage.specs.declared.traffic.Sought.TheVariants as soughts

-- the number of the request that is asked, or answered
abbrev pub number_in : Talk → ℕ
number_in (talks.Request request) = request.number
number_in (talks.Reply request answer) = request.number

abbrev pub is_about : ℕ → AppMessage → Bool
is_about number app = number_in app.talk == number

abbrev pub is_ask : ℕ → ℕ → Ask → Bool
is_ask instance incarnation ask = (ask.instance == instance) && (ask.incarnation == incarnation)

-- an underlying message with this number; an ask in this instance, and a vote in it on an ask, in this incarnation of
-- the asker
abbrev pub is_sought : Sought → Message → Bool
is_sought (soughts.Number number) (messages.App app) = is_about number app
is_sought (soughts.Ask instance incarnation) (messages.CheckAsk ask) = is_ask instance incarnation ask
is_sought (soughts.Ask instance incarnation) (messages.RollAsk ask) = is_ask instance incarnation ask
is_sought (soughts.Vote instance incarnation) (messages.Vote vote) =
    (vote.instance == instance) && (vote.incarnation == incarnation)
is_sought sought message = false

-- such a message is on its way from p to q
abbrev pub is_on_link : State → NodeId → NodeId → Sought → Bool
is_on_link s p q sought = list_any (is_sought sought) (link s p q)

abbrev pub is_kept_of : NodeId → ℕ → NodeId × AppMessage → Bool
is_kept_of from number x = node_eq x.0 from && is_about number x.1

-- p keeps back an underlying message of q with this number
abbrev pub is_kept : State → NodeId → NodeId → ℕ → Bool
is_kept s p q number = list_any (is_kept_of q number) (kept s p)
