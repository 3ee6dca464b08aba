-- What a node does next of itself, while a scenario of fault lines is run: the step of the first rule that applies to
-- it. A step is allowed where it is enabled, the limit of steps left aside.
-- Cited by Allowed, Asked, Ended, Nobody, Planned, Settled, asking.rt, ending.rt, locked_journal.rt, policy.rt,
--   running.rt, serving.rt, settling.rt, specs/Running, specs/Settling, specs/auxiliary/Serving, `ending::spend_all`,
--   `policy::first_by`, `policy::next_before_serving`, `settling::next_among`; other crates.
use Rattle.std.specs.Prelude.{ℕ, ◌==◌, Bool, true, false, not, ◌&&◌, ◌||◌, if◌then◌else◌, List, [], ◌∷◌, ◌++◌}
use Rattle.std.specs.Prelude.{Option, None, Some, fold, is_some}
use Rattle.std.specs.List.{find, list_all, list_any}
use Rattle.std.specs.Option.{option_map}
use Rattle.kt_tuple.specs.declared.node.NodeId.{NodeId}
use Rattle.kt_tuple.specs.declared.op.Op.{Op}
use Rattle.kt_tuple.specs.Node.{node_eq, node_index, is_before, all_nodes, all_workers}
use Rattle.kt_tuple.specs.Op.{op_eq}
use Rattle.kt_worker.specs.declared.worker.Worker.{Worker}
use Rattle.kt_worker.specs.WorkerModel.{again_request}
use Rattle.kt_shard.specs.declared.request.Request.{Request}
use Rattle.kt_shard.specs.Shard.{Shard, session_of}
use Rattle.kt_shard.specs.Table.{at}
use Rattle.kt_store.specs.declared.rows.Verdict.{Verdict}
use Rattle.kt_store.specs.declared.rows.Verdict.TheVariants as verdicts
use Rattle.kt_store.specs.Content.{Content, verdict_of}
use Rattle.kt_vote.specs.declared.asker.Asker.{Asker}
use Rattle.kt_vote.specs.Poll.{Poll, is_awaited}
use Rattle.kt_state.specs.declared.live.Phase.{Phase}
use Rattle.kt_state.specs.declared.live.Phase.TheVariants as phases
use Rattle.kt_state.specs.declared.node.Mode.{Mode}
use Rattle.kt_state.specs.declared.node.Mode.TheVariants as modes
use Rattle.kt_state.specs.Node.{Node, Down, Alive, node_number}
use Rattle.kt_node.specs.Talking.{home}
use Rattle.kt_scenario.specs.declared.step.Step.{Step}
use Rattle.kt_scenario.specs.declared.step.Step.TheVariants.{Issue, Repeat, Deliver, Take, Serve, Check, Decide}
use Rattle.kt_scenario.specs.declared.step.Step.TheVariants.{Abandon}
use Rattle.kt_scenario.specs.declared.step.Step.TheVariants.{Learn, Fail, Restart}
use Rattle.kt_model.specs.ReadSet.{mode_at, poll_at}
use Rattle.kt_scenario.specs.Scene.{is_node}
use Rattle.kt_model.specs.State.{State, view}
use Rattle.kt_scenario.specs.declared.faults.FaultKind.TheVariants as kinds
use Rattle.kt_scenario.specs.declared.faults.FaultLine.{FaultLine}
use Rattle.kt_scenario.specs.Faults.{is_due, spent}
use Rattle.kt_core.specs.Lent.{is_allowed, message_at, shard, worker}
use Rattle.kt_stage.specs.declared.traffic.Sought.TheVariants as soughts
use Rattle.kt_stage.specs.declared.policy.Rule.{Rule}
use Rattle.kt_stage.specs.declared.policy.Rule.TheVariants as rules
use Rattle.kt_stage.specs.Traffic.{is_kept, is_on_link}

-- ---- the words of the rules

-- the step, where this holds
abbrev pub step_if : Bool → Step → Option Step
step_if holds step = if holds then Some step else None

-- the step, where it is allowed
abbrev pub if_allowed : State → Step → Option Step
if_allowed s step = step_if (is_allowed s step) step

-- the one, or else the other
abbrev pub or_else : {A : Type 0} → Option A → Option A → Option A
or_else (Some x) other = Some x
or_else None other = other

-- the first that there is, in the order of the list
abbrev pub first_some : {A B : Type 0} → (A → Option B) → List A → Option B
first_some f [] = None
first_some f (x ∷ later) = or_else (f x) (first_some f later)

abbrev pub is_mode : Mode → Mode → Bool
is_mode modes.Up modes.Up = true
is_mode modes.Held modes.Held = true
is_mode modes.Rolling modes.Rolling = true
is_mode modes.Down modes.Down = true
is_mode a b = false

-- a node that is not in the scene counts as down
abbrev pub is_up : State → NodeId → Bool
is_up s p = is_mode (mode_at s p) modes.Up

abbrev pub is_down : State → NodeId → Bool
is_down s p = is_mode (mode_at s p) modes.Down

-- how many steps of its own it made
abbrev pub own_steps : State → NodeId → ℕ
own_steps s p = at 0 s.own (node_index p)

-- ---- 1. to fail is due, and it is not down

abbrev pub fails : State → List FaultLine → NodeId → Option Step
fails s lines p = step_if (not (is_down s p) && is_due kinds.Fail p (own_steps s p) lines) (Fail p)

-- ---- 2. a check is due, and it is up

abbrev pub checks : State → List FaultLine → NodeId → Option Step
checks s lines p = step_if (is_up s p && is_due kinds.Check p (own_steps s p) lines) (Check p)

-- ---- 3. it learns a verdict

abbrev pub learns : State → NodeId → Option Step
learns s p = if_allowed s (Learn p)

-- ---- 4. it is down: it gives up the instance that it began and that is open, or else it restarts

abbrev pub comes_back : State → NodeId → Option Step
comes_back s p = if is_down s p then or_else (if_allowed s (Abandon p)) (if_allowed s (Restart p)) else None

-- ---- 5. it began a rollback that got No: it restarts, where every other node is up, or began a rollback that got No
-- and comes later in node order

abbrev pub is_no : Option Verdict → Bool
is_no (Some verdicts.No) = true
is_no verdict = false

abbrev pub is_begun_no : Content → Poll → Option Asker → Bool
is_begun_no c b None = is_no (verdict_of c b.instance)
is_begun_no c b (Some parent) = false

abbrev pub rolls_after_no : Content → Phase → Bool
rolls_after_no c phases.Up = false
rolls_after_no c (phases.Held b) = false
rolls_after_no c (phases.Rolling b) = is_begun_no c b b.parent

abbrev pub node_got_no : Content → Node → Bool
node_got_no c Down = false
node_got_no c (Alive n) = rolls_after_no c n.phase

-- p began a rollback that got No, and still rolls
abbrev pub got_no : State → NodeId → Bool
got_no s p = node_got_no s.content (view s p).node

-- the scene does not have the node
abbrev pub is_absent : State → NodeId → Bool
is_absent s x = not (is_node s.scene x)

abbrev pub lets_restart : State → NodeId → NodeId → Bool
lets_restart s p x = is_absent s x || (node_eq x p || (is_up s x || (got_no s x && is_before p x)))

abbrev pub tries_again : State → NodeId → Option Step
tries_again s p = step_if (got_no s p && list_all (lets_restart s p) all_nodes) (Restart p)

-- ---- 6. it decides

abbrev pub decides : State → NodeId → Option Step
decides s p = if_allowed s (Decide p)

-- ---- 7. it hears the first node, in node order, that has a message on its way to it

abbrev pub has_sent : State → NodeId → NodeId → Bool
has_sent s p q = is_some (message_at s q p 0)

abbrev pub hears : State → NodeId → Option Step
hears s p = option_map (λ q. Deliver q p) (find (has_sent s p) all_nodes)

-- ---- 8. it takes what it keeps back

abbrev pub takes : State → NodeId → Option Step
takes s p = if_allowed s (Take p)

-- ---- 9. a worker: it asks for its next operation; or else once more for the one that is unanswered, where the shard
-- of the operation is up and does not hold the request as waiting, and nothing with the request's number is on its way
-- between the two, or kept back by the shard of the worker or by the worker of the shard

abbrev pub is_request : ℕ × Op → Request → Bool
is_request r request = (request.number == r.0) && op_eq request.op r.1

abbrev pub is_waiting : ℕ × Op → Option Request → Bool
is_waiting r None = false
is_waiting r (Some request) = is_request r request

abbrev pub waits_in : Option Shard → ℕ → ℕ × Op → Bool
waits_in None w r = false
waits_in (Some y) w r = is_waiting r (session_of y w).waiting

-- something with this number goes from the one to the other or back, or is kept back by one of them
abbrev pub is_in_traffic : State → NodeId → NodeId → ℕ → Bool
is_in_traffic s p q number =
    is_on_link s p q (soughts.Number number) || is_on_link s q p (soughts.Number number)
    || is_kept s p q number || is_kept s q p number

-- the request has come to nothing with this shard
abbrev pub is_forgotten : State → NodeId → NodeId → ℕ × Op → Bool
is_forgotten s p q r =
    is_up s q && not (waits_in (shard s q) (node_number p) r) && not (is_in_traffic s p q r.0)

abbrev pub is_lost_request : State → NodeId → Option (ℕ × Op) → Bool
is_lost_request s p None = false
is_lost_request s p (Some r) = is_forgotten s p (home s.scene.shards r.1) r

abbrev pub unanswered : Option Worker → Option (ℕ × Op)
unanswered None = None
unanswered (Some x) = again_request x

abbrev pub repeats : State → NodeId → Option Step
repeats s p = step_if (is_allowed s (Repeat p) && is_lost_request s p (unanswered (worker s p))) (Repeat p)

abbrev pub asks : State → NodeId → Option Step
asks s p = or_else (if_allowed s (Issue p)) (repeats s p)

-- ---- 10. a shard: it serves the first worker that it can serve with the first match

abbrev pub serves_with_first : State → NodeId → NodeId → Option Step
serves_with_first s p w = if_allowed s (Serve p w 0)

abbrev pub serves : State → NodeId → Option Step
serves s p = first_some (serves_with_first s p) all_workers

-- ---- 11. held or rolling: it gives up, where a node that it awaits owes it no vote. A node owes one where the ask is
-- on its way to it, or its vote on its way back, or it votes in the instance, asked by this node, and has not voted.

abbrev pub is_asker : NodeId → ℕ → Option Asker → Bool
is_asker p incarnation None = false
is_asker p incarnation (Some asker) = node_eq asker.node p && (asker.incarnation == incarnation)

abbrev pub will_vote : NodeId → Poll → Option Poll → Bool
will_vote p b None = false
will_vote p b (Some other) =
    (other.instance == b.instance) && is_asker p b.incarnation other.parent && not other.voted

abbrev pub owes_vote : State → NodeId → Poll → NodeId → Bool
owes_vote s p b x =
    is_on_link s p x (soughts.Ask b.instance b.incarnation) || is_on_link s x p (soughts.Vote b.instance b.incarnation)
    || will_vote p b (poll_at s x)

abbrev pub is_silent : State → NodeId → Poll → NodeId → Bool
is_silent s p b x = is_awaited b x && not (owes_vote s p b x)

abbrev pub has_silent : State → NodeId → Poll → Bool
has_silent s p b = list_any (is_silent s p b) b.asked

abbrev pub waits_in_vain : State → NodeId → Option Poll → Bool
waits_in_vain s p None = false
waits_in_vain s p (Some b) = has_silent s p b

abbrev pub gives_up : State → NodeId → Option Step
gives_up s p = step_if (is_allowed s (Abandon p) && waits_in_vain s p (poll_at s p)) (Abandon p)

-- ---- all of them

-- what each rule gives
abbrev pub by_rule : State → List FaultLine → NodeId → Rule → Option Step
by_rule s lines p rules.Fails = fails s lines p
by_rule s lines p rules.Checks = checks s lines p
by_rule s lines p rules.Learns = learns s p
by_rule s lines p rules.ComesBack = comes_back s p
by_rule s lines p rules.TriesAgain = tries_again s p
by_rule s lines p rules.Decides = decides s p
by_rule s lines p rules.Hears = hears s p
by_rule s lines p rules.Takes = takes s p
by_rule s lines p rules.Asks = asks s p
by_rule s lines p rules.Serves = serves s p
by_rule s lines p rules.GivesUp = gives_up s p

-- the rules that come before that of serving
abbrev pub before_serving : List Rule
before_serving =
    rules.Fails ∷ rules.Checks ∷ rules.Learns ∷ rules.ComesBack ∷ rules.TriesAgain ∷ rules.Decides
    ∷ rules.Hears ∷ rules.Takes ∷ rules.Asks ∷ []

-- all rules in their order
abbrev pub policy : List Rule
policy = before_serving ++ rules.Serves ∷ rules.GivesUp ∷ []

-- the step of the first rule that applies to p, where these fault lines are left
abbrev pub next_step : State → List FaultLine → NodeId → Option Step
next_step s lines p = first_some (by_rule s lines p) policy

abbrev pub if_unfinished : State → List FaultLine → NodeId → Option NodeId
if_unfinished s lines p = if is_some (next_step s lines p) then Some p else None

-- the first node, in node order, that has a next step
abbrev pub first_unfinished : State → List FaultLine → Option NodeId
first_unfinished s lines = first_some (if_unfinished s lines) all_nodes

-- the fault lines that are left after these steps
abbrev pub spent_by : List FaultLine → List Step → List FaultLine
spent_by lines steps = fold spent lines steps
