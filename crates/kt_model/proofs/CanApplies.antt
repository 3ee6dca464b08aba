-- In a ready state every plan can be carried out, and leaves the state ready, whatever the store says.
-- Cited by Holding, Kept, StepPlans; other crates.
use Rattle.std.proofs.Common.{◌≡◌, ◌<◌, true, false, [], List, Contains, None, sym, subst, length}
use Rattle.std.specs.Prelude.{IsTrue}
use Rattle.kt_tuple.specs.declared.node.NodeId.{NodeId}
use Rattle.kt_history.proofs.Shared.{Contains-here}
use Rattle.kt_state.specs.declared.message.Message.{Message}
use Rattle.kt_state.specs.declared.message.Message.TheVariants as messages
use Rattle.kt_state.specs.declared.change.KeptChange.TheVariants as keeps
use Rattle.kt_state.specs.declared.plan.Plan.{Plan}
use Rattle.kt_vote.specs.Poll.{Poll}
use Rattle.kt_state.specs.declared.message.AppMessage.{AppMessage}
use Rattle.kt_state.specs.declared.live.Phase.{Phase}
use Rattle.kt_state.specs.declared.live.Phase.TheVariants as phases
use Rattle.kt_state.specs.Node.{Live}
use Rattle.kt_scenario.specs.declared.step.Step.{Step}
use Rattle.kt_model.specs.declared.store_reads.StoreReads.{StoreReads}
use Rattle.kt_scenario.specs.Step.{owner}
use Rattle.kt_scenario.specs.declared.step.TheConstants.{MAX_STEPS, MAX_NOTES}
use Rattle.kt_scenario.specs.Scene.{is_node}
use Rattle.kt_model.specs.State.{State}
use Rattle.kt_model.specs.Effect.{applied}
use Rattle.kt_model.specs.auxiliary.Ready.{AreNeighbours, IsReady, CanApply}
use Rattle.kt_model.proofs.Plans as plans
use Rattle.kt_model.proofs.Plans.{IsAlive, Comes, Votes, PlanOf}
use Rattle.kt_model.proofs.Scene.{neighbour-node, neighbours-turned}
use Rattle.kt_model.proofs.Good.{IsGood, live-ready, stay-good, good-applies, good-ready}
use Rattle.kt_model.proofs.Leaves.{poll-ready, verdicts-near, verdicts-say}
use Rattle.kt_model.proofs.GoodActs.{issue-good, repeat-good, serve-good, heard-good, keep-good, comes-ready}
use Rattle.kt_model.proofs.GoodAsks.{answer-good, sieved-good, begin_check-good, join_check-good, join_rollback-good}
use Rattle.kt_model.proofs.GoodAsks.{vote-good, decline-good, decide-good, give_up-good, held_learns-good, release-good}
use Rattle.kt_model.proofs.GoodAsks.{restore-good, restart-good, promote_down-good, discard_down-good, fail-good}

-- the receiver is a node, and the sender its neighbour
there : (s : State) (p q : NodeId) (m : Message) → Comes s p q m → IsTrue (is_node s.scene q)
there s p q m comes = neighbour-node s.scene p q comes.neighbours

near : (s : State) (p q : NodeId) (m : Message) → Comes s p q m → AreNeighbours s.scene q p
near s p q m comes = neighbours-turned s.scene p q comes.neighbours

-- whom a node asked, that is in this phase
asked-near : (s : State) → IsReady s → (p : NodeId) (n : Live) (b : Poll) (phase : Poll → Phase) → IsAlive s p n → n.phase ≡ phase b → Votes (phase b) b phase
    → (q : NodeId) → Contains b.asked q → AreNeighbours s.scene p q
asked-near s ready p n b phase at is voting = (poll-ready s ready p n b phase at (subst (λ (x : Phase). Votes x b phase) (sym is) voting)).asked

pub plan-good : (s : State) → IsReady s → (t : StoreReads) (step : Step) (plan : Plan) → PlanOf s t step plan → IsGood s (owner step) plan
plan-good s ready t step plan (plans.issues {p = p} {n = n} {x = x} {r = r} is at up body kept next) = issue-good s ready p n x r is at body
plan-good s ready t step plan (plans.repeats {p = p} {n = n} {r = r} is at up body again) = repeat-good s ready p n r is at
plan-good s ready t step plan (plans.serves {p = p} {w = w} {n = n} {service = service} is other at up body gives) =
    serve-good s ready p w n service is other at
plan-good s ready t step plan (plans.takes {p = p} {from = from} {n = n} {app = app} {later = later} is at up kept) =
    let has = (live-ready s ready p n at).kept (from, app) (subst (λ (l : List (NodeId × AppMessage)). Contains l (from, app)) (sym kept)
    (Contains-here (from, app) later)) in
    heard-good s ready p from n keeps.TakeFirst app is at has.from has.names tt
plan-good s ready t step plan (plans.hears {p = p} {q = q} {n = n} {app = app} comes at up kept) =
    heard-good s ready q p n keeps.Stay app (there s p q _ comes) at (near s p q _ comes) (comes-ready s ready p q (messages.App app) comes) tt
plan-good s ready t step plan (plans.puts_by {p = p} {q = q} {n = n} {app = app} comes at rolls) =
    keep-good s ready q p n app (there s p q _ comes) at (near s p q _ comes) (comes-ready s ready p q (messages.App app) comes)
plan-good s ready t step plan (plans.drops {p = p} {q = q} comes may) = stay-good s ready q None None (there s p q _ comes) tt tt
plan-good s ready t step plan (plans.answers_check {p = p} {q = q} {n = n} {ask = ask} {agreed = agreed} comes at says) =
    answer-good s ready q p n ask agreed (there s p q _ comes) at (near s p q _ comes)
plan-good s ready t step plan (plans.joins_check {p = p} {q = q} {n = n} {ask = ask} comes at up open_yet joins fit other shaped) =
    join_check-good s ready q p n ask t.permanent (there s p q _ comes) at (near s p q _ comes)
plan-good s ready t step plan (plans.answers_rollback {p = p} {q = q} {n = n} {ask = ask} {agreed = agreed} comes at says) =
    sieved-good s ready q p n ask agreed (there s p q _ comes) at (near s p q _ comes)
plan-good s ready t step plan (plans.joins_rollback {p = p} {q = q} {n = n} {ask = ask} comes at up open_yet above fit) =
    join_rollback-good s ready q p n ask t.permanent (there s p q _ comes) at (near s p q _ comes)
plan-good s ready t step plan (plans.counts_vote {p = p} {q = q} {n = n} {vote = vote} {b = b} {phase = phase} comes at voting on) =
    vote-good s ready q p n b phase vote.yes (there s p q _ comes) at voting
plan-good s ready t step plan (plans.told_when_held {p = p} {q = q} {n = n} {b = b} {instance = instance} {agreed = agreed} comes at held same) =
    held_learns-good s ready q n agreed _ (there s p q _ comes) at
    (verdicts-near s.scene q instance agreed b.asked (asked-near s ready q n b phases.Held at held plans.holds))
    (verdicts-say s.history instance agreed b.asked)
plan-good s ready t step plan (plans.told_to_roll {p = p} {q = q} {n = n} {live = live} {b = b} {instance = instance} comes at rolls asked same loads) =
    restore-good s ready q t.stored live _ (there s p q _ comes) loads
    (verdicts-near s.scene q instance true b.asked (asked-near s ready q n b phases.Rolling at rolls plans.rolls))
    (verdicts-say s.history instance true b.asked)
plan-good s ready t step plan (plans.told_to_go_on {p = p} {q = q} {n = n} {b = b} {instance = instance} comes at rolls asked same) =
    release-good s ready q n _ (there s p q _ comes) at
    (verdicts-near s.scene q instance false b.asked (asked-near s ready q n b phases.Rolling at rolls plans.rolls))
    (verdicts-say s.history instance false b.asked)
plan-good s ready t step plan (plans.begins_check {p = p} {n = n} is at up fit shaped) = begin_check-good s ready p n t.next t.permanent is at
plan-good s ready t step plan (plans.decides {p = p} {n = n} {b = b} {phase = phase} {agreed = agreed} is at voting own open_yet comes) =
    decide-good s ready p n b phase agreed is at voting
plan-good s ready t step plan (plans.gives_up {p = p} {n = n} {b = b} {phase = phase} is at voting own open_yet) = give_up-good s ready p n b phase is at voting
plan-good s ready t step plan (plans.gives_up_down {p = p} is down has) = stay-good s ready p None _ is tt tt
plan-good s ready t step plan (plans.declines {p = p} {n = n} {b = b} {phase = phase} {parent = parent} is at voting asked has) =
    decline-good s ready p n b phase parent is at voting asked
plan-good s ready t step plan (plans.learns_when_held {p = p} {n = n} {agreed = agreed} is at held knows) = held_learns-good s ready p n agreed [] is at tt tt
plan-good s ready t step plan (plans.learns_to_roll {p = p} {live = live} is at rolls asked knows loads) =
    restore-good s ready p t.stored live [] is loads tt tt
plan-good s ready t step plan (plans.learns_to_go_on {p = p} {n = n} is at rolls asked knows) = release-good s ready p n [] is at tt tt
plan-good s ready t step plan (plans.learns_yes_down {p = p} is down has knows) = promote_down-good s ready p is
plan-good s ready t step plan (plans.learns_no_down {p = p} is down has knows fit) = discard_down-good s ready p t.stored is fit
plan-good s ready t step plan (plans.fails {p = p} {n = n} is at fit other) = fail-good s ready p t.verdict t.permanent t.tentative is fit other
plan-good s ready t step plan (plans.restarts {p = p} {live = live} is down has free loads) = restart-good s ready p t.stored t.next live is loads
plan-good s ready t step plan (plans.restarts_anew {p = p} {live = live} is at rolls own refused loads) = restart-good s ready p t.stored t.next live is loads

-- ---- the laws

pub can_apply : (s : State) → IsReady s → (t : StoreReads) (step : Step) (plan : Plan) → PlanOf s t step plan → CanApply s (owner step) plan
can_apply s ready t step plan of = good-applies s (owner step) plan ready (plan-good s ready t step plan of)

pub stays_ready : (s : State) → IsReady s → s.made < MAX_STEPS → length s.history < MAX_NOTES → (t : StoreReads) (step : Step) (plan : Plan)
    → PlanOf s t step plan → IsReady (applied s step plan)
stays_ready s ready few room t step plan of = good-ready s step plan ready (plan-good s ready t step plan of) few room
