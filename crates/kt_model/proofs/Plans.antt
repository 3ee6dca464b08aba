-- The ways in which a step gets its plan: what is known there, and the plan. Later proofs match these and never see the
-- tests. A way may stand for several leaves of the tables, and may allow more than they do. That each plan is had in one
-- of them is proved in ActsFound, ArrivalsFound and StepsFound. One way more is an arm in each proof that goes through
-- them, here and in kt_refinement.
-- Cited by ActKeeps, ActLeaves, ActsFound, AllInstanceRows, ArrivalsFound, Backs, CanApplies, CheckLeaves,
--   FailLeaves, FirstCut, Fit, Good, GoodActs, GoodAsks, Headlines, HeldActs, Holding, Leaves, LogsAfter, Newer,
--   OnLinks, Passed, PlansFound, QuietLeaves and 7 more; other crates.
use Rattle.std.proofs.Common.{◌≡◌, ℕ, Bool, true, false, List, [], ◌∷◌, Some, None, Ok}
use Rattle.std.specs.Prelude.{is_some, IsTrue}
use Rattle.kt_tuple.specs.declared.node.NodeId.{NodeId}
use Rattle.kt_tuple.specs.declared.op.Op.{Op}
use Rattle.kt_worker.specs.declared.worker.Worker.{Worker}
use Rattle.kt_worker.specs.WorkerModel.{next_request, again_request, issued}
use Rattle.kt_shard.specs.Shard.{Shard}
use Rattle.kt_shard.specs.Service.{Service, service}
use Rattle.kt_store.specs.declared.rows.Verdict.TheVariants as verdicts
use Rattle.kt_vote.specs.declared.asker.Asker.{Asker}
use Rattle.kt_vote.specs.declared.vote.Vote.{Vote}
use Rattle.kt_vote.specs.Poll.{Poll, counts, counted, outcome_of}
use Rattle.kt_state.specs.declared.message.Ask.{Ask}
use Rattle.kt_state.specs.declared.message.AppMessage.{AppMessage}
use Rattle.kt_state.specs.declared.message.Message.{Message}
use Rattle.kt_state.specs.declared.message.Message.TheVariants as messages
use Rattle.kt_state.specs.declared.live.Phase.{Phase}
use Rattle.kt_state.specs.declared.live.Phase.TheVariants as phases
use Rattle.kt_state.specs.declared.change.KeptChange.TheVariants as keeps
use Rattle.kt_state.specs.declared.change.Change.TheVariants as changes
use Rattle.kt_state.specs.declared.plan.Plan.{Plan}
use Rattle.kt_node.specs.declared.reaction.Reaction.TheVariants as reactions
use Rattle.kt_state.specs.Labels.{up_to, label_at}
use Rattle.kt_state.specs.Node.{Live, Down, Alive, IsWorker, IsShard, node_number}
use Rattle.kt_state.specs.Plan.{empty_plan}
use Rattle.kt_state.specs.Updating.{no_update}
use Rattle.kt_state.specs.Stored.{fits, acts_fit, is_undecided}
use Rattle.kt_node.specs.AppMessages.{keep_plan}
use Rattle.kt_state.specs.Voting.{casting, poll_after, voted}
use Rattle.kt_node.specs.Talking.{issue_plan, repeat_plan, service_plan, heard_plan}
use Rattle.kt_node.specs.Joining.{begin_check_plan, join_check_plan, join_rollback_plan}
use Rattle.kt_node.specs.Loading.{load}
use Rattle.kt_state.specs.Loading.{header_in}
use Rattle.kt_node.specs.Learning.{held_learns, restoring_plan, release_plan, promote_down_plan, discard_down_plan, verdict_to}
use Rattle.kt_node.specs.Arrivals.{check_reaction, rollback_reaction, answer_plan, sieved_answer_plan, voting_plan}
use Rattle.kt_node.specs.Deciding.{decide_plan, no_plan, declined_plan, settled}
use Rattle.kt_node.specs.Failing.{fail_plan, log_left, restarting_plan}
use Rattle.kt_scenario.specs.declared.step.Step.{Step}
use Rattle.kt_scenario.specs.declared.step.Step.TheVariants.{Issue, Repeat, Deliver, Take, Serve, Check, Decide, Abandon, Learn, Fail, Restart}
use Rattle.kt_model.specs.declared.store_reads.StoreReads.{StoreReads}
use Rattle.kt_scenario.specs.Scene.{is_worker, is_shard, is_node, are_neighbours}
use Rattle.kt_model.specs.State.{State, node, link, role_of, view}
use Rattle.kt_logs.specs.Cause.{cause_of_waiting}

-- p is alive so
abbrev pub IsAlive : State → NodeId → Live → Type 0
IsAlive s p n = node s p ≡ Some (Alive n)

-- p is down, or no node
abbrev pub IsDown : State → NodeId → Type 0
IsDown s p = (view s p).node ≡ Down

-- the first message of the link from p to q
pub record Comes (s : State) (p q : NodeId) (message : Message) : Type 0 where
  pub neighbours : IsTrue (are_neighbours s.scene p q)
  pub later : List Message
  pub on : link s p q ≡ message ∷ later

-- only a node that is down drops an ask
abbrev pub IsDroppedBy : State → NodeId → Message → Type 0
IsDroppedBy s q (messages.CheckAsk ask) = IsDown s q
IsDroppedBy s q (messages.RollAsk ask) = IsDown s q
IsDroppedBy s q (messages.App app) = Unit {0}
IsDroppedBy s q (messages.Vote vote) = Unit {0}
IsDroppedBy s q (messages.Verdict instance agreed) = Unit {0}

-- what is known of a checkpoint that fits
abbrev pub Fit : State → NodeId → StoreReads → Type 0
Fit s p t = IsTrue (fits (role_of s.scene p) (view s p).line_len t.permanent)

-- the acts of the log may stand in a checkpoint
abbrev pub ActsFit : State → NodeId → Type 0
ActsFit s p = IsTrue (acts_fit (role_of s.scene p) (view s p).acts)

abbrev pub TentativeFits : State → NodeId → StoreReads → Type 0
TentativeFits s p t = IsTrue (fits (role_of s.scene p) (view s p).line_len t.tentative)

-- a phase in which the node votes, with its ballot put in anew
pub data Votes : Phase → Poll → (Poll → Phase) → Type 0 where
  holds : {b : Poll} → Votes (phases.Held b) b phases.Held
  rolls : {b : Poll} → Votes (phases.Rolling b) b phases.Rolling

pub data PlanOf (s : State) (t : StoreReads) : Step → Plan → Type 0 where
  -- the acts of a worker and of a shard
  issues : {p : NodeId} {n : Live} {x : Worker} {r : ℕ × Op}
      → IsTrue (is_worker s.scene p) → IsAlive s p n → n.phase ≡ phases.Up → n.body ≡ IsWorker x → n.kept ≡ []
      → next_request (role_of s.scene p).script x ≡ Some r
      → PlanOf s t (Issue p) (issue_plan (view s p) n r (issued (role_of s.scene p).script x))
  repeats : {p : NodeId} {n : Live} {x : Worker} {r : ℕ × Op}
      → IsTrue (is_worker s.scene p) → IsAlive s p n → n.phase ≡ phases.Up → n.body ≡ IsWorker x → again_request x ≡ Some r
      → PlanOf s t (Repeat p) (repeat_plan (view s p) n r)
  serves : {p w : NodeId} {n : Live} {y : Shard} {place : ℕ} {service : Service}
      → IsTrue (is_shard s.scene p) → IsTrue (is_worker s.scene w) → IsAlive s p n → n.phase ≡ phases.Up → n.body ≡ IsShard y
      → Rattle.kt_shard.specs.Service.service y (node_number w) place ≡ Ok service
      → PlanOf s t (Serve p w place) (service_plan (view s p) n (node_number w) (cause_of_waiting s.history p (node_number w)) service)
  takes : {p from : NodeId} {n : Live} {app : AppMessage} {later : List (NodeId × AppMessage)}
      → IsTrue (is_node s.scene p) → IsAlive s p n → n.phase ≡ phases.Up → n.kept ≡ (from, app) ∷ later
      → PlanOf s t (Take p) (heard_plan (view s p) n keeps.TakeFirst from app)
  -- an underlying message comes
  hears : {p q : NodeId} {n : Live} {app : AppMessage}
      → Comes s p q (messages.App app) → IsAlive s q n → n.phase ≡ phases.Up → n.kept ≡ []
      → PlanOf s t (Deliver p q) (heard_plan (view s q) n keeps.Stay p app)
  puts_by : {p q : NodeId} {n : Live} {app : AppMessage}
      → Comes s p q (messages.App app) → IsAlive s q n → ((b : Poll) → ¬ (n.phase ≡ phases.Rolling b))
      → PlanOf s t (Deliver p q) (keep_plan p app)
  -- whatever comes and is not heard: by a node that is down or rolls back, or that has no use for it
  drops : {p q : NodeId} {message : Message}
      → Comes s p q message → IsDroppedBy s q message → PlanOf s t (Deliver p q) empty_plan
  -- an ask to take a checkpoint
  answers_check : {p q : NodeId} {n : Live} {ask : Ask} {agreed : Bool}
      → Comes s p q (messages.CheckAsk ask) → IsAlive s q n
      → check_reaction n p ask t.verdict t.permanent t.tentative ≡ reactions.Says agreed
      → PlanOf s t (Deliver p q) (answer_plan p ask agreed)
  joins_check : {p q : NodeId} {n : Live} {ask : Ask}
      → Comes s p q (messages.CheckAsk ask) → IsAlive s q n → n.phase ≡ phases.Up → IsTrue (is_undecided t.verdict)
      → check_reaction n p ask t.verdict t.permanent t.tentative ≡ reactions.Joins
      → Fit s q t → TentativeFits s q t → ActsFit s q
      → PlanOf s t (Deliver p q) (join_check_plan (view s q) n p ask t.permanent)
  -- an ask to roll back
  answers_rollback : {p q : NodeId} {n : Live} {ask : Ask} {agreed : Bool}
      → Comes s p q (messages.RollAsk ask) → IsAlive s q n → rollback_reaction n p ask t.verdict ≡ reactions.Says agreed
      → PlanOf s t (Deliver p q) (sieved_answer_plan p ask agreed)
  joins_rollback : {p q : NodeId} {n : Live} {ask : Ask}
      → Comes s p q (messages.RollAsk ask) → IsAlive s q n → n.phase ≡ phases.Up → IsTrue (is_undecided t.verdict)
      → up_to (label_at n.received (node_number p)) ask.label ≡ false → Fit s q t
      → PlanOf s t (Deliver p q) (join_rollback_plan (view s q) n p ask t.permanent)
  -- a vote
  counts_vote : {p q : NodeId} {n : Live} {vote : Vote} {b : Poll} {phase : Poll → Phase}
      → Comes s p q (messages.Vote vote) → IsAlive s q n → Votes n.phase b phase → IsTrue (counts b p vote)
      → PlanOf s t (Deliver p q) (voting_plan (phase (poll_after (counted b p vote.yes) (casting (counted b p vote.yes)))) (casting (counted b p vote.yes)))
  -- a verdict
  told_when_held : {p q : NodeId} {n : Live} {b : Poll} {instance : ℕ} {agreed : Bool}
      → Comes s p q (messages.Verdict instance agreed) → IsAlive s q n → n.phase ≡ phases.Held b → b.instance ≡ instance
      → PlanOf s t (Deliver p q) (held_learns agreed (verdict_to instance agreed b.asked))
  told_to_roll : {p q : NodeId} {n live : Live} {b : Poll} {parent : Asker} {instance : ℕ}
      → Comes s p q (messages.Verdict instance true) → IsAlive s q n → n.phase ≡ phases.Rolling b → b.parent ≡ Some parent → b.instance ≡ instance
      → load (view s q) t.stored ≡ Ok live
      → PlanOf s t (Deliver p q) (restoring_plan (view s q) t.stored (verdict_to instance true b.asked) live)
  told_to_go_on : {p q : NodeId} {n : Live} {b : Poll} {parent : Asker} {instance : ℕ}
      → Comes s p q (messages.Verdict instance false) → IsAlive s q n → n.phase ≡ phases.Rolling b → b.parent ≡ Some parent → b.instance ≡ instance
      → PlanOf s t (Deliver p q) (release_plan (verdict_to instance false b.asked))
  -- the steps of checks and rollbacks
  begins_check : {p : NodeId} {n : Live}
      → IsTrue (is_node s.scene p) → IsAlive s p n → n.phase ≡ phases.Up → Fit s p t → ActsFit s p
      → PlanOf s t (Check p) (begin_check_plan (view s p) n t.next t.permanent)
  decides : {p : NodeId} {n : Live} {b : Poll} {phase : Poll → Phase} {agreed : Bool}
      → IsTrue (is_node s.scene p) → IsAlive s p n → Votes n.phase b phase → b.parent ≡ None → IsTrue (is_undecided t.verdict) → outcome_of b ≡ Some agreed
      → PlanOf s t (Decide p) (decide_plan n.phase b agreed)
  gives_up : {p : NodeId} {n : Live} {b : Poll} {phase : Poll → Phase}
      → IsTrue (is_node s.scene p) → IsAlive s p n → Votes n.phase b phase → b.parent ≡ None → IsTrue (is_undecided t.verdict)
      → PlanOf s t (Abandon p) (no_plan (changes.Update no_update) b.instance b.asked)
  gives_up_down : {p : NodeId} {instance : ℕ}
      → IsTrue (is_node s.scene p) → IsDown s p → t.undecided ≡ Some instance
      → PlanOf s t (Abandon p) (no_plan changes.Stay instance [])
  declines : {p : NodeId} {n : Live} {b : Poll} {phase : Poll → Phase} {parent : Asker}
      → IsTrue (is_node s.scene p) → IsAlive s p n → Votes n.phase b phase → b.parent ≡ Some parent → b.voted ≡ false
      → PlanOf s t (Abandon p) (declined_plan (phase (voted b)) b.instance parent)
  learns_when_held : {p : NodeId} {n : Live} {b : Poll} {agreed : Bool}
      → IsTrue (is_node s.scene p) → IsAlive s p n → n.phase ≡ phases.Held b → settled t.verdict ≡ Some agreed
      → PlanOf s t (Learn p) (held_learns agreed [])
  learns_to_roll : {p : NodeId} {n live : Live} {b : Poll} {parent : Asker}
      → IsTrue (is_node s.scene p) → IsAlive s p n → n.phase ≡ phases.Rolling b → b.parent ≡ Some parent → settled t.verdict ≡ Some true
      → load (view s p) t.stored ≡ Ok live
      → PlanOf s t (Learn p) (restoring_plan (view s p) t.stored [] live)
  learns_to_go_on : {p : NodeId} {n : Live} {b : Poll} {parent : Asker}
      → IsTrue (is_node s.scene p) → IsAlive s p n → n.phase ≡ phases.Rolling b → b.parent ≡ Some parent → settled t.verdict ≡ Some false
      → PlanOf s t (Learn p) (release_plan [])
  learns_yes_down : {p : NodeId}
      → IsTrue (is_node s.scene p) → IsDown s p → is_some t.tentative ≡ true → settled t.verdict ≡ Some true
      → PlanOf s t (Learn p) promote_down_plan
  learns_no_down : {p : NodeId}
      → IsTrue (is_node s.scene p) → IsDown s p → is_some t.tentative ≡ true → settled t.verdict ≡ Some false
      → IsTrue (fits (role_of s.scene p) (view s p).line_len (header_in t.stored))
      → PlanOf s t (Learn p) (discard_down_plan (view s p) t.stored)
  -- failures
  fails : {p : NodeId} {n : Live}
      → IsTrue (is_node s.scene p) → IsAlive s p n → Fit s p t → TentativeFits s p t
      → PlanOf s t (Fail p) (fail_plan (view s p) (log_left t.verdict t.permanent t.tentative))
  restarts : {p : NodeId} {live : Live}
      → IsTrue (is_node s.scene p) → IsDown s p → is_some t.tentative ≡ false → t.undecided ≡ None
      → load (view s p) t.stored ≡ Ok live
      → PlanOf s t (Restart p) (restarting_plan (view s p) t.stored t.next live)
  restarts_anew : {p : NodeId} {n live : Live} {b : Poll}
      → IsTrue (is_node s.scene p) → IsAlive s p n → n.phase ≡ phases.Rolling b → b.parent ≡ None → t.verdict ≡ Some verdicts.No
      → load (view s p) t.stored ≡ Ok live
      → PlanOf s t (Restart p) (restarting_plan (view s p) t.stored t.next live)
