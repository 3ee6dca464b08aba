-- A step of a world over a store that tells what it holds makes a write that the store allows, and leaves the state
-- backed.
-- Cited by Holding, Kept, Newer, Settling, StepPlans.
use Rattle.std.proofs.Common.{◌≡◌, ℕ, ◌+◌, Bool, true, false, List, [], Option, None, Some, Ok, refl, sym, ap, ◌∙◌, subst}
use Rattle.std.specs.Prelude.{IfSome}
use Rattle.std.specs.List.{AllByRecursion}
use Rattle.kt_tuple.specs.declared.node.NodeId.{NodeId}
use Rattle.kt_store.specs.declared.rows.Tentative.{Tentative}
use Rattle.kt_store.specs.declared.rows.Verdict.TheVariants as verdicts
use Rattle.kt_store.specs.Content.{Content, next_instance, row_of, verdict_of, verdict_on}
use Rattle.kt_vote.specs.Poll.{Poll, asking_poll, counted}
use Rattle.kt_state.specs.declared.message.AppMessage.{AppMessage}
use Rattle.kt_state.specs.declared.message.Message.{Message}
use Rattle.kt_state.specs.declared.message.Message.TheVariants as messages
use Rattle.kt_state.specs.declared.live.Phase.{Phase}
use Rattle.kt_state.specs.declared.live.Phase.TheVariants as phases
use Rattle.kt_state.specs.declared.change.KeptChange.{KeptChange}
use Rattle.kt_state.specs.declared.change.KeptChange.TheVariants as keeps
use Rattle.kt_state.specs.declared.plan.Plan.{Plan}
use Rattle.kt_state.specs.declared.stored.Stored.{Stored}
use Rattle.kt_state.specs.Node.{Live, Node, neighbours, poll_in}
use Rattle.kt_state.specs.Stored.{sent_in}
use Rattle.kt_state.specs.Labels.{label_at}
use Rattle.kt_state.specs.Voting.{casting, poll_after, voted, votes}
use Rattle.kt_state.specs.Asking.{check_asks, roll_asks}
use Rattle.kt_node.specs.Joining.{asker_of, cohort, roller}
use Rattle.kt_node.specs.Loading.{load}
use Rattle.kt_node.specs.Learning.{verdict_to, held_learns, restoring_plan}
use Rattle.kt_node.specs.Failing.{restarting_plan}
use Rattle.kt_state.specs.declared.plan.Write.TheVariants as writes
use Rattle.kt_vote.specs.declared.vote.Vote.{Vote}
use Rattle.kt_node.specs.Deciding.{decide_plan}
use Rattle.kt_scenario.specs.declared.step.Step.{Step}
use Rattle.kt_scenario.specs.declared.step.Step.TheVariants.{Restart}
use Rattle.kt_scenario.specs.Step.{owner}
use Rattle.kt_model.specs.State.{State, role_of, view}
use Rattle.kt_model.specs.StoreReads.{store_reads, of_poll, to_learn}
use Rattle.kt_model.specs.Effect.{applied}
use Rattle.kt_model.specs.Writing.{content_after}
use Rattle.kt_model.specs.auxiliary.Backed.{IsTakenIn, IsPhaseBacked, IsBacked, IsAllowed}
use Rattle.kt_model.proofs.Plans as plans
use Rattle.kt_model.proofs.Plans.{IsAlive, IsDown, Votes, PlanOf}
use Rattle.kt_logs.proofs.Shared.{all-append}
use Rattle.kt_model.proofs.Heards as ways
use Rattle.kt_model.proofs.Heards.{HeardOf, heard-is}
use Rattle.kt_model.proofs.Good.{live-seen}
use Rattle.kt_model.proofs.Boards.{Says, open-verdict, decided-own}
use Rattle.kt_model.proofs.Backs.{SaysBoards, Backs, backs-backed, phase-backed, backed-in, update-backs, load-backs}
use Rattle.kt_model.proofs.Backs.{fall-backs, stay-backs, down-backs, casting-board, checks-board, rolls-board}
use Rattle.kt_model.proofs.Backs.{verdicts-board, undecided-open, settled-is, taken-has, comes-boards, none-tentative}
use Rattle.kt_model.proofs.Leaves.{ballot_in, of_ballot}
use Rattle.kt_model.proofs.Cutting.{loaded}

-- ---- what is known

store_reads-held : (s : State) (p : NodeId) (n : Live) (b : Poll) → IsAlive s p n → n.phase ≡ phases.Held b
    → to_learn s.content p (view s p).node ≡ verdict_of s.content b.instance
store_reads-held s p n b at held =
    ap (λ (x : Node). to_learn s.content p x) (live-seen s p n at) ∙ ap (λ (x : Phase). of_poll s.content (poll_in x)) held

store_reads-down : (s : State) (p : NodeId) → IsDown s p → to_learn s.content p (view s p).node ≡ verdict_on s.content (row_of s.content p).tentative
store_reads-down s p down = ap (λ (x : Node). to_learn s.content p x) down

-- ---- the leaves

-- a message is heard
heard-backs : (s : State) → IsBacked s → (p from : NodeId) (n : Live) (kept : KeptChange) (app : AppMessage) (plan : Plan) → IsAlive s p n
    → HeardOf (view s p) n kept from app plan → Backs s p plan
heard-backs s is p from n kept app plan at (ways.misses_request body talk) = update-backs s p n plan _ refl at tt (phase-backed s is p n at) tt
heard-backs s is p from n kept app plan at (ways.accepts body talk awaited) = update-backs s p n plan _ refl at tt (phase-backed s is p n at) tt
heard-backs s is p from n kept app plan at (ways.ignores_reply body talk other) = update-backs s p n plan _ refl at tt (phase-backed s is p n at) tt
heard-backs s is p from n kept app plan at (ways.hears body talk new) = update-backs s p n plan _ refl at tt (phase-backed s is p n at) tt
heard-backs s is p from n kept app plan at (ways.answers_again body talk old has) = update-backs s p n plan _ refl at tt (phase-backed s is p n at) (tt, tt)
heard-backs s is p from n kept app plan at (ways.ignores_request body talk old none) = update-backs s p n plan _ refl at tt (phase-backed s is p n at) tt
heard-backs s is p from n kept app plan at (ways.misses_reply body talk) = update-backs s p n plan _ refl at tt (phase-backed s is p n at) tt

-- the phase stays, with another ballot in the same instance
phase-again : (x : Phase) (b c : Poll) (phase : Poll → Phase) (stored : Option Tentative) → Votes x b phase → c.instance ≡ b.instance
    → IsPhaseBacked x stored → IsPhaseBacked (phase c) stored
phase-again x b c phase stored plans.holds same is = subst (λ (i : ℕ). IsTakenIn i stored) (sym same) is
phase-again x b c phase stored plans.rolls same is = is

pub after-instance : (b : Poll) (vote : Option (NodeId × Vote)) → (poll_after b vote).instance ≡ b.instance
after-instance b None = refl
after-instance b (Some vote) = refl

-- a node that is held learns
held-backs : (s : State) (p : NodeId) (n : Live) (b : Poll) (agreed : Bool) (send : List (NodeId × Message)) → IsAlive s p n
    → IsTakenIn b.instance (row_of s.content p).tentative
    → Says s.content b.instance agreed → ((c : Content) → Says c b.instance agreed → AllByRecursion (SaysBoards c) send) → Backs s p (held_learns agreed send)
held-backs s p n b true send at is says sends =
    update-backs s p n _ _ refl at (taken-has s.content b.instance (row_of s.content p).tentative verdicts.Yes is says) refl
    (sends (content_after p (Some writes.Promote) s.content) says)
held-backs s p n b false send at is says sends =
    update-backs s p n _ _ refl at (taken-has s.content b.instance (row_of s.content p).tentative verdicts.No is says) refl
    (sends (content_after p (Some writes.Discard) s.content) says)

decide-backs : (s : State) → IsBacked s → (p : NodeId) (n : Live) (b : Poll) (agreed : Bool) → IsAlive s p n
    → verdict_of s.content b.instance ≡ Some verdicts.Open
    → Backs s p (decide_plan n.phase b agreed)
decide-backs s is p n b agreed at undecided = by n.phase agreed (phase-backed s is p n at) refl
  where
    sends : (agreed : Bool)
        → AllByRecursion (SaysBoards (content_after p (Some (writes.Decide b.instance agreed)) s.content)) (verdict_to b.instance agreed b.asked)
    sends agreed =
        verdicts-board (content_after p (Some (writes.Decide b.instance agreed)) s.content) b.instance agreed b.asked
        (decided-own b.instance agreed s.content verdicts.Open undecided)

    by : (x : Phase) (agreed : Bool) → IsPhaseBacked x (row_of s.content p).tentative → n.phase ≡ x → Backs s p (decide_plan x b agreed)
    by (phases.Rolling c) true back e = update-backs s p n _ _ refl at undecided back (sends true)
    by (phases.Rolling c) false back e = update-backs s p n _ _ refl at undecided (phase-backed s is p n at) (sends false)
    by (phases.Held c) agreed back e = update-backs s p n _ _ refl at undecided (phase-backed s is p n at) (sends agreed)
    by phases.Up agreed back e = update-backs s p n _ _ refl at undecided (phase-backed s is p n at) (sends agreed)

restore-backs : (s : State) (p : NodeId) (stored : Stored) (live : Live) (send : List (NodeId × Message)) → load (view s p) stored ≡ Ok live
    → (row_of s.content p).tentative ≡ None
    → AllByRecursion (SaysBoards (content_after p (Some writes.Bump) s.content)) send → Backs s p (restoring_plan (view s p) stored send live)
restore-backs s p stored live send loads none says =
    load-backs s p _ live refl tt
    (subst (λ (x : Phase). IsPhaseBacked x (row_of s.content p).tentative) (sym (loaded s.scene p (view s p) stored live refl loads).up) none) says

restart-backs : (s : State) (p : NodeId) (stored : Stored) (next : ℕ) (live : Live) → (row_of s.content p).tentative ≡ None
    → Backs s p (restarting_plan (view s p) stored next live)
restart-backs s p stored next live none =
    load-backs s p _ _ refl tt none
    (rolls-board (content_after p (Some writes.BeginRestart) s.content) next (stored.incarnation + 1) (label_at live.sent) (neighbours (role_of s.scene p)))

pub plan-backs : (s : State) → IsBacked s → (step : Step) (plan : Plan) → PlanOf s (store_reads s step) step plan → Backs s (owner step) plan
plan-backs s is step plan (plans.issues {p = p} {n = n} there at up body kept next) = update-backs s p n plan _ refl at tt (phase-backed s is p n at) (tt, tt)
plan-backs s is step plan (plans.repeats {p = p} {n = n} there at up body again) = update-backs s p n plan _ refl at tt (phase-backed s is p n at) (tt, tt)
plan-backs s is step plan (plans.serves {p = p} {n = n} there other at up body gives) = update-backs s p n plan _ refl at tt (phase-backed s is p n at) (tt, tt)
plan-backs s is step plan (plans.takes {p = p} {from = from} {n = n} {app = app} there at up kept) =
    heard-backs s is p from n keeps.TakeFirst app plan at (heard-is (view s p) n keeps.TakeFirst from app)
plan-backs s is step plan (plans.hears {p = p} {q = q} {n = n} {app = app} comes at up kept) =
    heard-backs s is q p n keeps.Stay app plan at (heard-is (view s q) n keeps.Stay p app)
plan-backs s is step plan (plans.puts_by {q = q} {n = n} comes at rolls) = update-backs s q n plan _ refl at tt (phase-backed s is q n at) tt
plan-backs s is step plan (plans.drops {q = q} comes may) = stay-backs s is q plan refl refl refl
plan-backs s is step plan (plans.answers_check {q = q} {n = n} comes at says) = update-backs s q n plan _ refl at tt (phase-backed s is q n at) (tt, tt)
plan-backs s is step plan (plans.joins_check {p = p} {q = q} {n = n} {ask = ask} comes at up undecided joins fit other shaped) =
    let b = asking_poll ask.instance n.incarnation (Some (asker_of p ask)) (cohort (role_of s.scene q) (store_reads s step).permanent n) in
    let c = (content_after q plan.write s.content) in
    update-backs s q n plan _ refl at (backed-in s is q n phases.Up at up)
    (record { tentative = _; is_stored = refl; is_of = sym (after-instance b (casting b)) })
    (all-append (SaysBoards c) (check_asks b.instance n b.asked) (votes (casting b)) (checks-board c b.instance n b.asked) (casting-board c b))
plan-backs s is step plan (plans.answers_rollback {q = q} {n = n} comes at says) = update-backs s q n plan _ refl at tt (phase-backed s is q n at) (tt, tt)
plan-backs s is step plan (plans.joins_rollback {p = p} {q = q} {n = n} {ask = ask} comes at up undecided above fit) =
    let b = roller (role_of s.scene q) n p ask in
    let label = sent_in (store_reads s step).permanent in
    update-backs s q n plan _ refl at tt (backed-in s is q n phases.Up at up)
    (all-append (SaysBoards s.content) (roll_asks b.instance n.incarnation label b.asked) (votes (casting b))
    (rolls-board s.content b.instance n.incarnation label b.asked) (casting-board s.content b))
plan-backs s is step plan (plans.counts_vote {p = p} {q = q} {n = n} {vote = vote} {b = b} {phase = phase} comes at voting on) =
    let c = counted b p vote.yes in
    update-backs s q n plan _ refl at tt
    (phase-again n.phase b (poll_after c (casting c)) phase (row_of s.content q).tentative voting (after-instance c (casting c)) (phase-backed s is q n at))
    (casting-board s.content c)
plan-backs s is step plan (plans.told_when_held {p = p} {q = q} {n = n} {b = b} {instance = instance} {agreed = agreed} comes at held same) =
    let says : Says s.content instance agreed = comes-boards s is p q (messages.Verdict instance agreed) comes in
    held-backs s q n b agreed (verdict_to instance agreed b.asked) at (backed-in s is q n (phases.Held b) at held)
    (subst (λ (i : ℕ). Says s.content i agreed) (sym same) says)
    (λ c said. verdicts-board c instance agreed b.asked (subst (λ (i : ℕ). Says c i agreed) same said))
plan-backs s is step plan (plans.told_to_roll {p = p} {q = q} {n = n} {live = live} {b = b} {instance = instance} comes at rolls asked same loads) =
    let says : Says s.content instance true = comes-boards s is p q (messages.Verdict instance true) comes in
    restore-backs s q _ live _ loads (backed-in s is q n (phases.Rolling b) at rolls)
    (verdicts-board (content_after q (Some writes.Bump) s.content) instance true b.asked says)
plan-backs s is step plan (plans.told_to_go_on {p = p} {q = q} {n = n} {b = b} {instance = instance} comes at rolls asked same) =
    let says : Says s.content instance false = comes-boards s is p q (messages.Verdict instance false) comes in
    update-backs s q n plan _ refl at tt (backed-in s is q n (phases.Rolling b) at rolls) (verdicts-board s.content instance false b.asked says)
plan-backs s is step plan (plans.begins_check {p = p} {n = n} there at up fit shaped) =
    let b = asking_poll (next_instance s.content) n.incarnation None (cohort (role_of s.scene p) (store_reads s step).permanent n) in
    let c = content_after p plan.write s.content in
    update-backs s p n plan _ refl at (backed-in s is p n phases.Up at up)
    (record { tentative = _; is_stored = refl; is_of = sym (after-instance b (casting b)) })
    (all-append (SaysBoards c) (check_asks b.instance n b.asked) (votes (casting b)) (checks-board c b.instance n b.asked) (casting-board c b))
plan-backs s is step plan (plans.decides {p = p} {n = n} {b = b} {phase = phase} {agreed = agreed} there at voting own undecided comes) =
    decide-backs s is p n b agreed at (sym (of_ballot s p n b at (ballot_in n.phase b phase voting)) ∙ undecided-open _ undecided)
plan-backs s is step plan (plans.gives_up {p = p} {n = n} {b = b} {phase = phase} there at voting own undecided) =
    let yet = sym (of_ballot s p n b at (ballot_in n.phase b phase voting)) ∙ undecided-open _ undecided in
    update-backs s p n plan _ refl at yet (phase-backed s is p n at)
    (verdicts-board (content_after p (Some (writes.Decide b.instance false)) s.content) b.instance false b.asked
    (decided-own b.instance false s.content verdicts.Open yet))
plan-backs s is step plan (plans.gives_up_down {p = p} {instance = instance} there down has) =
    down-backs s p plan refl down (open-verdict s.content p instance is.board has) refl
plan-backs s is step plan (plans.declines {p = p} {n = n} {b = b} {phase = phase} there at voting asked has) =
    update-backs s p n plan _ refl at tt (phase-again n.phase b (voted b) phase (row_of s.content p).tentative voting refl (phase-backed s is p n at)) (tt, tt)
plan-backs s is step plan (plans.learns_when_held {p = p} {n = n} {b = b} {agreed = agreed} there at held knows) =
    held-backs s p n b agreed [] at (backed-in s is p n (phases.Held b) at held) (sym (store_reads-held s p n b at held) ∙ settled-is _ agreed knows)
    (λ c said. tt)
plan-backs s is step plan (plans.learns_to_roll {p = p} {n = n} {live = live} {b = b} there at rolls asked knows loads) =
    restore-backs s p _ live [] loads (backed-in s is p n (phases.Rolling b) at rolls) tt
plan-backs s is step plan (plans.learns_to_go_on {p = p} {n = n} {b = b} there at rolls asked knows) =
    update-backs s p n plan _ refl at tt (backed-in s is p n (phases.Rolling b) at rolls) tt
plan-backs s is step plan (plans.learns_yes_down {p = p} there down has knows) =
    down-backs s p plan refl down (sym (store_reads-down s p down) ∙ settled-is _ true knows) refl
plan-backs s is step plan (plans.learns_no_down {p = p} there down has knows fit) =
    down-backs s p plan refl down (sym (store_reads-down s p down) ∙ settled-is _ false knows) refl
plan-backs s is step plan (plans.fails {p = p} there at fit other) = fall-backs s p plan refl refl refl
plan-backs s is step plan (plans.restarts {p = p} {live = live} there down has free loads) =
    restart-backs s p (store_reads s (Restart p)).stored (store_reads s (Restart p)).next live (none-tentative s p has)
plan-backs s is step plan (plans.restarts_anew {p = p} {n = n} {live = live} {b = b} there at rolls own refused loads) =
    restart-backs s p (store_reads s (Restart p)).stored (store_reads s (Restart p)).next live (backed-in s is p n (phases.Rolling b) at rolls)

-- ---- the laws

-- the step's write is one that the store allows
pub write-allowed : (s : State) → IsBacked s → (step : Step) (plan : Plan) → PlanOf s (store_reads s step) step plan
    → IfSome plan.write (IsAllowed s.content (owner step))
write-allowed s is step plan of = (plan-backs s is step plan of).allowed

pub stays_backed : (s : State) → IsBacked s → (step : Step) (plan : Plan) → PlanOf s (store_reads s step) step plan
    → IsBacked (applied s step plan)
stays_backed s is step plan of = backs-backed s step plan is (plan-backs s is step plan of)
