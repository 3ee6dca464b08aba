-- What the rule of a step looks at is all that it has to be told.
-- Cited by other crates.
use Rattle.std.proofs.Common.{◌≡◌, ℕ, ◌==◌, Bool, true, false, ◌&&◌, if◌then◌else◌, List, [], ◌∷◌, Option, Some, None, refl, ap}
use Rattle.std.specs.Prelude.{is_some}
use Rattle.kt_tuple.specs.declared.node.NodeId.{NodeId}
use Rattle.kt_store.specs.declared.rows.Verdict.{Verdict}
use Rattle.kt_store.specs.Content.{Content, next_instance, open_of, permanent_header, row_of, verdict_of, verdict_on}
use Rattle.kt_ckpt.specs.Header.{HeaderFields}
use Rattle.kt_state.specs.declared.message.Ask.{Ask}
use Rattle.kt_vote.specs.declared.asker.Asker.{Asker}
use Rattle.kt_vote.specs.Poll.{Poll}
use Rattle.kt_state.specs.declared.message.Message.{Message}
use Rattle.kt_state.specs.declared.message.Message.TheVariants as messages
use Rattle.kt_state.specs.declared.live.Phase.{Phase}
use Rattle.kt_state.specs.declared.live.Phase.TheVariants as phases
use Rattle.kt_state.specs.Node.{Live, Node, Down, Alive, mode_in, mode_of, poll_in, poll_of}
use Rattle.kt_node.specs.View.{View}
use Rattle.kt_state.specs.Plan.{Planned}
use Rattle.kt_node.specs.Arrivals.{unless_down, check_fitting, rollback_plan, rollback_reaction, verdict_in, verdict_by_parent, verdict_when_rolling}
use Rattle.kt_node.specs.Deciding.{check_of, check_in, decide_of, decide_in, decide_by, abandon_of, abandon_in}
use Rattle.kt_node.specs.Deciding.{abandon_by, learn_of, learn_in, learn_by, settled}
use Rattle.kt_node.specs.Failing.{fail_of, restart_of, restart_in, restart_by}
use Rattle.kt_scenario.specs.declared.step.Step.{Step}
use Rattle.kt_scenario.specs.declared.step.Step.TheVariants.{Issue, Repeat, Deliver, Take, Serve, Check, Decide, Abandon, Learn, Fail, Restart}
use Rattle.kt_model.specs.declared.store_reads.StoreReads.{StoreReads}
use Rattle.kt_scenario.specs.Step.{owner}
use Rattle.kt_model.specs.State.{State, link, view}
use Rattle.kt_model.specs.StoreReads.{store_reads, tentative_in, stored_of, of_ask, of_poll, of_first, to_learn}
use Rattle.kt_model.specs.ReadSet.{empty_read_set, read_set_in, read_set_of, for_check, for_decide, if_initiator}
use Rattle.kt_model.specs.auxiliary.Reading.{reads_by}
use Rattle.kt_model.specs.ReadSet.{for_abandon, for_learn, if_learner, for_fail, for_restart, if_restarter, for_ask}
use Rattle.kt_model.specs.ReadSet.{for_verdict, if_participant, for_message, for_first}
use Rattle.kt_scenario.specs.Scene.{is_in_scene}
use Rattle.kt_model.specs.StepPlan.{owner_plan, unlimited_plan, of_scene, hear, delivery}

check-enough : (v : View) (c : Content) (p : NodeId) (node : Node) →
    let t = reads_by (for_check (mode_of node)) c p in check_of v t.next t.permanent node
    ≡ check_of v (next_instance c) (permanent_header c p) node
check-enough v c p Down = refl
check-enough v c p (Alive n) = by n.phase
  where
    by : (phase : Phase) → let t = reads_by (for_check (mode_in phase)) c p in check_in v t.next t.permanent n phase
        ≡ check_in v (next_instance c) (permanent_header c p) n phase
    by phases.Up = refl
    by (phases.Held b) = refl
    by (phases.Rolling b) = refl

decide-enough : (c : Content) (p : NodeId) (node : Node) →
    decide_of (reads_by (for_decide (poll_of node)) c p).verdict node ≡ decide_of (of_poll c (poll_of node)) node
decide-enough c p Down = refl
decide-enough c p (Alive n) = by n.phase
  where
    voting : (phase : Phase) (b : Poll) (parent : Option Asker) → decide_by phase b (reads_by (if_initiator b parent) c p).verdict parent
        ≡ decide_by phase b (verdict_of c b.instance) parent
    voting phase b None = refl
    voting phase b (Some parent) = refl

    by : (phase : Phase) → decide_in (reads_by (for_decide (poll_in phase)) c p).verdict phase ≡ decide_in (of_poll c (poll_in phase)) phase
    by phases.Up = refl
    by (phases.Held b) = voting (phases.Held b) b b.parent
    by (phases.Rolling b) = voting (phases.Rolling b) b b.parent

abandon-enough : (c : Content) (p : NodeId) (node : Node) →
    let t = reads_by (for_abandon (mode_of node) (poll_of node)) c p in abandon_of t.verdict t.undecided node
    ≡ abandon_of (of_poll c (poll_of node)) (open_of c p) node
abandon-enough c p Down = refl
abandon-enough c p (Alive n) = by n.phase
  where
    voting : (phase : Poll → Phase) (b : Poll) (parent : Option Asker) → abandon_by phase b (reads_by (if_initiator b parent) c p).verdict parent
        ≡ abandon_by phase b (verdict_of c b.instance) parent
    voting phase b None = refl
    voting phase b (Some parent) = refl

    by : (phase : Phase) → abandon_in (reads_by (for_abandon (mode_in phase) (poll_in phase)) c p).verdict phase ≡ abandon_in (of_poll c (poll_in phase)) phase
    by phases.Up = refl
    by (phases.Held b) = voting phases.Held b b.parent
    by (phases.Rolling b) = voting phases.Rolling b b.parent

learn-enough : (v : View) (c : Content) (p : NodeId) (node : Node) →
    let t = reads_by (for_learn (mode_of node) (poll_of node)) c p in learn_of v t.stored (is_some t.tentative) (settled t.verdict) node
    ≡ learn_of v (stored_of c p) (is_some (tentative_in c p)) (settled (to_learn c p node)) node
learn-enough v c p Down = refl
learn-enough v c p (Alive n) = by n.phase
  where
    rolling : (b : Poll) (parent : Option Asker)
        → learn_by v (reads_by (if_learner b parent) c p).stored (settled (reads_by (if_learner b parent) c p).verdict) parent
        ≡ learn_by v (stored_of c p) (settled (verdict_of c b.instance)) parent
    rolling b None = refl
    rolling b (Some parent) = refl

    by : (phase : Phase) → let t = reads_by (for_learn (mode_in phase) (poll_in phase)) c p in learn_in v t.stored (settled t.verdict) phase
        ≡ learn_in v (stored_of c p) (settled (of_poll c (poll_in phase))) phase
    by phases.Up = refl
    by (phases.Held b) = refl
    by (phases.Rolling b) = rolling b b.parent

fail-enough : (v : View) (c : Content) (p : NodeId) (node : Node) →
    let t = reads_by (for_fail (mode_of node)) c p in fail_of v t.verdict t.permanent t.tentative node
    ≡ fail_of v (verdict_on c (row_of c p).tentative) (permanent_header c p) (tentative_in c p) node
fail-enough v c p Down = refl
fail-enough v c p (Alive n) = by n.phase
  where
    by : (phase : Phase) → let t = reads_by (for_fail (mode_in phase)) c p in fail_of v t.verdict t.permanent t.tentative (Alive n)
        ≡ fail_of v (verdict_on c (row_of c p).tentative) (permanent_header c p) (tentative_in c p) (Alive n)
    by phases.Up = refl
    by (phases.Held b) = refl
    by (phases.Rolling b) = refl

restart-enough : (v : View) (c : Content) (p : NodeId) (node : Node) →
    let t = reads_by (for_restart (mode_of node) (poll_of node)) c p in restart_of v t.stored t.next (is_some t.tentative) t.undecided t.verdict node
    ≡ restart_of v (stored_of c p) (next_instance c) (is_some (tentative_in c p)) (open_of c p) (of_poll c (poll_of node)) node
restart-enough v c p Down = refl
restart-enough v c p (Alive n) = by n.phase
  where
    rolling : (b : Poll) (parent : Option Asker) →
        let t = reads_by (if_restarter b parent) c p in restart_by v t.stored t.next t.verdict parent
        ≡ restart_by v (stored_of c p) (next_instance c) (verdict_of c b.instance) parent
    rolling b None = refl
    rolling b (Some parent) = refl

    by : (phase : Phase) → let t = reads_by (for_restart (mode_in phase) (poll_in phase)) c p in restart_in v t.stored t.next t.verdict phase
        ≡ restart_in v (stored_of c p) (next_instance c) (of_poll c (poll_in phase)) phase
    by phases.Up = refl
    by (phases.Held b) = refl
    by (phases.Rolling b) = rolling b b.parent

-- an ask, of whatever kind, to a node in this phase
asked-enough : (c : Content) (p : NodeId) (instance : ℕ) (n : Live) (phase : Phase) (P : Option Verdict → Option HeaderFields → Option HeaderFields → Planned) →
    let t = reads_by (for_ask instance (mode_in phase)) c p in P t.verdict t.permanent t.tentative
    ≡ P (verdict_of c instance) (permanent_header c p) (tentative_in c p)
asked-enough c p instance n phases.Up P = refl
asked-enough c p instance n (phases.Held b) P = refl
asked-enough c p instance n (phases.Rolling b) P = refl

check_ask-enough : (v : View) (c : Content) (p from : NodeId) (ask : Ask) (node : Node) →
    let t = reads_by (for_ask ask.instance (mode_of node)) c p in unless_down node (check_fitting v from ask t.verdict t.permanent t.tentative)
    ≡ unless_down node (check_fitting v from ask (verdict_of c ask.instance) (permanent_header c p) (tentative_in c p))
check_ask-enough v c p from ask Down = refl
check_ask-enough v c p from ask (Alive n) =
    asked-enough c p ask.instance n n.phase
    (λ verdict permanent tentative. check_fitting v from ask verdict permanent tentative n)

roll_ask-enough : (v : View) (c : Content) (p from : NodeId) (ask : Ask) (node : Node) →
    let t = reads_by (for_ask ask.instance (mode_of node)) c p in
    unless_down node (λ n. rollback_plan v n from ask t.permanent (rollback_reaction n from ask t.verdict))
    ≡ unless_down node (λ n. rollback_plan v n from ask (permanent_header c p) (rollback_reaction n from ask (verdict_of c ask.instance)))
roll_ask-enough v c p from ask Down = refl
roll_ask-enough v c p from ask (Alive n) =
    asked-enough c p ask.instance n n.phase
    (λ verdict permanent tentative. rollback_plan v n from ask permanent (rollback_reaction n from ask verdict))

verdict-enough : (v : View) (c : Content) (p : NodeId) (instance : ℕ) (agreed : Bool) (node : Node) →
    unless_down node (λ n. verdict_in v (reads_by (for_verdict instance agreed (mode_of node) (poll_of node)) c p).stored instance agreed n.phase)
    ≡ unless_down node (λ n. verdict_in v (stored_of c p) instance agreed n.phase)
verdict-enough v c p instance agreed Down = refl
verdict-enough v c p instance agreed (Alive n) = by n.phase
  where
    this : (b : Poll) (parent : Asker) (said same : Bool) → (b.instance == instance) ≡ same → agreed ≡ said →
        verdict_when_rolling v (reads_by (if_participant (same && said) (Some parent)) c p).stored b instance agreed
        ≡ verdict_when_rolling v (stored_of c p) b instance agreed
    this b parent true true e f = refl
    this b parent false true e f = rw f refl
    this b parent true false e f = rw e refl
    this b parent false false e f = rw e refl

    rolling : (b : Poll) (parent : Option Asker) →
        verdict_by_parent v (reads_by (if_participant ((b.instance == instance) && agreed) parent) c p).stored b instance agreed parent
        ≡ verdict_by_parent v (stored_of c p) b instance agreed parent
    rolling b None = refl
    rolling b (Some parent) = this b parent agreed (b.instance == instance) refl refl

    by : (phase : Phase) → verdict_in v (reads_by (for_verdict instance agreed (mode_in phase) (poll_in phase)) c p).stored instance agreed phase
        ≡ verdict_in v (stored_of c p) instance agreed phase
    by phases.Up = refl
    by (phases.Held b) = refl
    by (phases.Rolling b) = rolling b b.parent

-- all that an arrival is told
abbrev full : Content → NodeId → Option Verdict → StoreReads
full c p verdict = record {
  verdict = verdict;
  permanent = permanent_header c p;
  tentative = tentative_in c p;
  stored = stored_of c p;
  undecided = open_of c p;
  next = next_instance c;
}

hear-enough : (v : View) (c : Content) (from p : NodeId) (message : Message) →
    hear v (reads_by (for_message message (mode_of v.node) (poll_of v.node)) c p) from message ≡ hear v (full c p (of_ask c message)) from message
hear-enough v c from p (messages.App app) = refl
hear-enough v c from p (messages.CheckAsk ask) = check_ask-enough v c p from ask v.node
hear-enough v c from p (messages.RollAsk ask) = roll_ask-enough v c p from ask v.node
hear-enough v c from p (messages.Vote vote) = refl
hear-enough v c from p (messages.Verdict instance agreed) = verdict-enough v c p instance agreed v.node

delivery-enough : (v : View) (c : Content) (from p : NodeId) (queue : List Message) →
    delivery v (reads_by (for_first queue (mode_of v.node) (poll_of v.node)) c p) from queue ≡ delivery v (full c p (of_first c queue)) from queue
delivery-enough v c from p [] = refl
delivery-enough v c from p (message ∷ later) = hear-enough v c from p message

owner_plan-enough : (s : State) (step : Step) → owner_plan s (reads_by (read_set_in s step) s.content (owner step)) step
    ≡ owner_plan s (store_reads s step) step
owner_plan-enough s (Issue p) = refl
owner_plan-enough s (Repeat p) = refl
owner_plan-enough s (Deliver p q) = delivery-enough (view s q) s.content p q (link s p q)
owner_plan-enough s (Take p) = refl
owner_plan-enough s (Serve p w place) = refl
owner_plan-enough s (Check p) = check-enough (view s p) s.content p (view s p).node
owner_plan-enough s (Decide p) = decide-enough s.content p (view s p).node
owner_plan-enough s (Abandon p) = abandon-enough s.content p (view s p).node
owner_plan-enough s (Learn p) = learn-enough (view s p) s.content p (view s p).node
owner_plan-enough s (Fail p) = fail-enough (view s p) s.content p (view s p).node
owner_plan-enough s (Restart p) = restart-enough (view s p) s.content p (view s p).node

-- a step that names no nodes of the scene is told nothing, and refused
pub enough : (s : State) (step : Step) → unlimited_plan s (reads_by (read_set_of s step) s.content (owner step)) step
    ≡ unlimited_plan s (store_reads s step) step
enough s step = by (is_in_scene s.scene step)
  where
    by : (there : Bool) → of_scene there (owner_plan s (reads_by (if there then read_set_in s step else empty_read_set) s.content (owner step)) step)
        ≡ of_scene there (owner_plan s (store_reads s step) step)
    by true = ap (of_scene true) (owner_plan-enough s step)
    by false = refl
