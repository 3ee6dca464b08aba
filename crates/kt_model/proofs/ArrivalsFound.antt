-- What is planned where a message comes is planned in the ways that are listed.
-- Cited by PlansFound.
use Rattle.std.proofs.Common.{◌≡◌, ℕ, Bool, true, false, ◌&&◌, if◌then◌else◌, List, [], ◌∷◌, Option, Some, None, Result, Ok, Err, refl, sym, subst}
use Rattle.std.specs.Prelude.{IsTrue, slice_get}
use Rattle.std.proofs.lemmas.Bool.{and_parts, eqb-true}
use Rattle.kt_tuple.specs.declared.node.NodeId.{NodeId}
use Rattle.kt_vote.specs.declared.asker.Asker.{Asker}
use Rattle.kt_vote.specs.declared.vote.Vote.{Vote}
use Rattle.kt_vote.specs.Poll.{Poll, counts, counted}
use Rattle.kt_state.specs.declared.message.Ask.{Ask}
use Rattle.kt_state.specs.declared.message.AppMessage.{AppMessage}
use Rattle.kt_state.specs.declared.message.Message.{Message}
use Rattle.kt_state.specs.declared.message.Message.TheVariants as messages
use Rattle.kt_state.specs.declared.live.Phase.{Phase}
use Rattle.kt_state.specs.declared.live.Phase.TheVariants as phases
use Rattle.kt_state.specs.declared.plan.Plan.{Plan}
use Rattle.kt_node.specs.declared.reaction.Reaction.{Reaction}
use Rattle.kt_node.specs.declared.reaction.Reaction.TheVariants as reactions
use Rattle.kt_state.specs.declared.refusal.Refusal.{Refusal}
use Rattle.kt_state.specs.declared.refusal.Refusal.TheVariants as refusals
use Rattle.kt_state.specs.Labels.{up_to, label_at}
use Rattle.kt_state.specs.Node.{Live, Node, Down, Alive, node_number}
use Rattle.kt_state.specs.Stored.{fits, acts_fit, is_undecided, sent_in}
use Rattle.kt_node.specs.AppMessages.{app_when_up, app_in, app_plan, hear_app}
use Rattle.kt_node.specs.Loading.{load}
use Rattle.kt_node.specs.Learning.{restored, verdict_to, held_learns, rolling_learns}
use Rattle.kt_node.specs.Arrivals.{unless_down, is_in, check_in, check_when_open, check_reaction, check_plan}
use Rattle.kt_node.specs.Arrivals.{check_fitting, hear_check, rollback_in, rollback_when_open, rollback_reaction}
use Rattle.kt_node.specs.Arrivals.{rollback_plan, hear_rollback, behind_own, vote_plan, vote_in, hear_vote, verdict_by_parent, verdict_in, hear_verdict}
use Rattle.kt_state.specs.Plan.{empty_plan}
use Rattle.kt_scenario.specs.declared.step.Step.TheVariants.{Deliver}
use Rattle.kt_model.specs.declared.store_reads.StoreReads.{StoreReads}
use Rattle.kt_scenario.specs.Scene.{are_neighbours}
use Rattle.kt_model.specs.State.{State, role_of, view, link}
use Rattle.kt_model.specs.StepPlan.{hear, delivery}
use Rattle.kt_model.proofs.Plans as plans
use Rattle.kt_model.proofs.Plans.{IsAlive, Comes, Votes, PlanOf}
use Rattle.kt_node.proofs.Shared.{this}
use Rattle.kt_model.proofs.Passed.{step_plan, if-passed, alive-is}

app-found : (s : State) (t : StoreReads) (p q : NodeId) (app : AppMessage) (plan : Plan) → Comes s p q (messages.App app)
    → hear_app (view s q) p app ≡ Ok plan → PlanOf s t (Deliver p q) plan
app-found s t p q app plan comes e = by (view s q).node refl e
  where
    Goal : Plan → Type 0
    Goal = PlanOf s t (Deliver p q)

    up : (n : Live) → IsAlive s q n → n.phase ≡ phases.Up → (kept : List (NodeId × AppMessage)) → n.kept ≡ kept
        → Goal (app_when_up (view s q) n p app (slice_get kept 0))
    up n at is [] kept = plans.hears comes at is kept
    up n at is (first ∷ later) kept = plans.puts_by comes at (λ b rolls. cc)

    phase : (n : Live) → IsAlive s q n → (x : Phase) → n.phase ≡ x → Goal (app_in (view s q) n p app x)
    phase n at phases.Up is = up n at is n.kept refl
    phase n at (phases.Held b) is = plans.puts_by comes at (λ b rolls. cc)
    phase n at (phases.Rolling b) is = plans.drops comes tt

    by : (x : Node) → (view s q).node ≡ x → step_plan (app_plan (view s q) p app x) ≡ Ok plan → Goal plan
    by Down is e = this Goal _ plan (plans.drops comes tt) e
    by (Alive n) is e = this Goal _ plan (phase n (alive-is s q n is) n.phase refl) e

check-found : (s : State) (t : StoreReads) (p q : NodeId) (ask : Ask) (plan : Plan) → Comes s p q (messages.CheckAsk ask)
    → hear_check (view s q) p ask t.verdict t.permanent t.tentative ≡ Ok plan → PlanOf s t (Deliver p q) plan
check-found s t p q ask plan comes e = by (view s q).node refl e
  where
    Goal : Plan → Type 0
    Goal = PlanOf s t (Deliver p q)

    fit : Bool
    fit = fits (role_of s.scene q) (view s q).line_len t.permanent && fits (role_of s.scene q) (view s q).line_len t.tentative

    -- only a node that is up joins
    up : (n : Live) (x : Phase) → check_in n p ask t.tentative x ≡ reactions.Joins → x ≡ phases.Up
    up n phases.Up e = refl
    up n (phases.Held b) e = absurd cc
    up n (phases.Rolling b) e = absurd cc

    late : (n : Live) (b : Bool) → (if b then reactions.Says true else check_in n p ask t.tentative n.phase) ≡ reactions.Joins → n.phase ≡ phases.Up
    late n true e = absurd cc
    late n false e = up n n.phase e

    joins : (n : Live) (b : Bool) → (if b then check_when_open n p ask t.permanent t.tentative else reactions.Says false) ≡ reactions.Joins
        → IsTrue b × (n.phase ≡ phases.Up)
    joins n true e = (refl, late n (up_to ask.label (sent_in t.permanent (node_number p))) e)
    joins n false e = absurd cc

    reacts : (n : Live) → IsAlive s q n → IsTrue fit → (r : Reaction) → check_reaction n p ask t.verdict t.permanent t.tentative ≡ r
        → check_plan (view s q) n p ask t.permanent r ≡ Ok plan → Goal plan
    reacts n at fit (reactions.Says agreed) is e = this Goal _ plan (plans.answers_check comes at is) e
    reacts n at fit reactions.Joins is e =
        let how = joins n (is_undecided t.verdict) is in
        let both = and_parts (fits (role_of s.scene q) (view s q).line_len t.permanent) (fits (role_of s.scene q) (view s q).line_len t.tentative) fit in
        let shaped = if-passed (acts_fit (role_of s.scene q) (view s q).acts) _ refusals.Damaged plan e in
        this Goal _ plan (plans.joins_check comes at how.1 how.0 is both.0 both.1 shaped.0) shaped.1

    by : (x : Node) → (view s q).node ≡ x → unless_down x (check_fitting (view s q) p ask t.verdict t.permanent t.tentative) ≡ Ok plan → Goal plan
    by Down is e = this Goal _ plan (plans.drops comes is) e
    by (Alive n) is e =
        let passed = if-passed fit _ refusals.Damaged plan e in
        reacts n (alive-is s q n is) passed.0 (check_reaction n p ask t.verdict t.permanent t.tentative) refl passed.1

rollback-found : (s : State) (t : StoreReads) (p q : NodeId) (ask : Ask) (plan : Plan) → Comes s p q (messages.RollAsk ask)
    → hear_rollback (view s q) p ask t.verdict t.permanent ≡ Ok plan → PlanOf s t (Deliver p q) plan
rollback-found s t p q ask plan comes e = by (view s q).node refl e
  where
    Goal : Plan → Type 0
    Goal = PlanOf s t (Deliver p q)

    up : (x : Phase) → rollback_in ask x ≡ reactions.Joins → x ≡ phases.Up
    up phases.Up e = refl
    up (phases.Held b) e = absurd cc
    up (phases.Rolling b) e = absurd cc

    late : (n : Live) (b : Bool) → (if b then reactions.Says true else rollback_in ask n.phase) ≡ reactions.Joins → (b ≡ false) × (n.phase ≡ phases.Up)
    late n true e = absurd cc
    late n false e = (refl, up n.phase e)

    joins : (n : Live) (b : Bool) → (if b then rollback_when_open n p ask else reactions.Says false) ≡ reactions.Joins
        → IsTrue b × (up_to (label_at n.received (node_number p)) ask.label ≡ false) × (n.phase ≡ phases.Up)
    joins n true e = let how = late n (up_to (label_at n.received (node_number p)) ask.label) e in (refl, how.0, how.1)
    joins n false e = absurd cc

    reacts : (n : Live) → IsAlive s q n → (r : Reaction) → rollback_reaction n p ask t.verdict ≡ r
        → rollback_plan (view s q) n p ask t.permanent r ≡ Ok plan → Goal plan
    reacts n at (reactions.Says agreed) is e = this Goal _ plan (plans.answers_rollback comes at is) e
    reacts n at reactions.Joins is e =
        let how = joins n (is_undecided t.verdict) is in
        let passed = if-passed (fits (role_of s.scene q) (view s q).line_len t.permanent) _ refusals.Damaged plan e in
        this Goal _ plan (plans.joins_rollback comes at how.2 how.0 how.1 passed.0) passed.1

    by : (x : Node) → (view s q).node ≡ x
        → unless_down x (λ n. rollback_plan (view s q) n p ask t.permanent (rollback_reaction n p ask t.verdict)) ≡ Ok plan → Goal plan
    by Down is e = this Goal _ plan (plans.drops comes is) e
    by (Alive n) is e = reacts n (alive-is s q n is) (rollback_reaction n p ask t.verdict) refl e

vote-found : (s : State) (t : StoreReads) (p q : NodeId) (vote : Vote) (plan : Plan) → Comes s p q (messages.Vote vote) → hear_vote (view s q) p vote ≡ Ok plan
    → PlanOf s t (Deliver p q) plan
vote-found s t p q vote plan comes e = by (view s q).node refl e
  where
    Goal : Plan → Type 0
    Goal = PlanOf s t (Deliver p q)

    count : (n : Live) (b : Poll) (phase : Poll → Phase) → IsAlive s q n → Votes n.phase b phase → (c : Bool) → counts b p vote ≡ c
        → Goal (vote_plan phase (if c then Some (behind_own (counted b p vote.yes)) else None))
    count n b phase at is true on = plans.counts_vote comes at is on
    count n b phase at is false on = plans.drops comes tt

    phase : (n : Live) → IsAlive s q n → (x : Phase) → n.phase ≡ x → Goal (vote_in p vote x)
    phase n at phases.Up is = plans.drops comes tt
    phase n at (phases.Held b) is = count n b phases.Held at (subst (λ x. Votes x b phases.Held) (sym is) plans.holds) (counts b p vote) refl
    phase n at (phases.Rolling b) is = count n b phases.Rolling at (subst (λ x. Votes x b phases.Rolling) (sym is) plans.rolls) (counts b p vote) refl

    by : (x : Node) → (view s q).node ≡ x → unless_down x (λ n. Ok (vote_in p vote n.phase)) ≡ Ok plan → Goal plan
    by Down is e = this Goal _ plan (plans.drops comes tt) e
    by (Alive n) is e = this Goal _ plan (phase n (alive-is s q n is) n.phase refl) e

verdict-found : (s : State) (t : StoreReads) (p q : NodeId) (instance : ℕ) (agreed : Bool) (plan : Plan) → Comes s p q (messages.Verdict instance agreed)
    → hear_verdict (view s q) t.stored instance agreed ≡ Ok plan → PlanOf s t (Deliver p q) plan
verdict-found s t p q instance agreed plan comes e = by (view s q).node refl e
  where
    Goal : Plan → Type 0
    Goal = PlanOf s t (Deliver p q)

    held : (n : Live) (b : Poll) → IsAlive s q n → n.phase ≡ phases.Held b → (c : Bool) → is_in b instance ≡ c
        → Goal (if c then held_learns agreed (verdict_to instance agreed b.asked) else empty_plan)
    held n b at is true same = plans.told_when_held comes at is (eqb-true b.instance instance same)
    held n b at is false same = plans.drops comes tt

    loads : (n : Live) (b : Poll) (parent : Asker) → Comes s p q (messages.Verdict instance true) → IsAlive s q n → n.phase ≡ phases.Rolling b
        → b.parent ≡ Some parent
        → b.instance ≡ instance → (r : Result Live Refusal) → load (view s q) t.stored ≡ r
        → restored (view s q) t.stored (verdict_to instance true b.asked) r ≡ Ok plan → Goal plan
    loads n b parent comes at is asked same (Err refusal) gives e = absurd cc
    loads n b parent comes at is asked same (Ok live) gives e = this Goal _ plan (plans.told_to_roll comes at is asked same gives) e

    learns : (n : Live) (b : Poll) (parent : Asker) (agreed : Bool) → Comes s p q (messages.Verdict instance agreed) → IsAlive s q n
        → n.phase ≡ phases.Rolling b
        → b.parent ≡ Some parent → b.instance ≡ instance → rolling_learns (view s q) t.stored agreed (verdict_to instance agreed b.asked) ≡ Ok plan → Goal plan
    learns n b parent true comes at is asked same e = loads n b parent comes at is asked same (load (view s q) t.stored) refl e
    learns n b parent false comes at is asked same e = this Goal _ plan (plans.told_to_go_on comes at is asked same) e

    in_it : (n : Live) (b : Poll) (parent : Asker) → IsAlive s q n → n.phase ≡ phases.Rolling b → b.parent ≡ Some parent → (c : Bool) → is_in b instance ≡ c
        → (if c then rolling_learns (view s q) t.stored agreed (verdict_to instance agreed b.asked) else Ok empty_plan) ≡ Ok plan → Goal plan
    in_it n b parent at is asked true same e = learns n b parent agreed comes at is asked (eqb-true b.instance instance same) e
    in_it n b parent at is asked false same e = this Goal _ plan (plans.drops comes tt) e

    rolling : (n : Live) (b : Poll) → IsAlive s q n → n.phase ≡ phases.Rolling b → (o : Option Asker) → b.parent ≡ o
        → verdict_by_parent (view s q) t.stored b instance agreed o ≡ Ok plan → Goal plan
    rolling n b at is None asked e = this Goal _ plan (plans.drops comes tt) e
    rolling n b at is (Some parent) asked e = in_it n b parent at is asked (is_in b instance) refl e

    phase : (n : Live) → IsAlive s q n → (x : Phase) → n.phase ≡ x → verdict_in (view s q) t.stored instance agreed x ≡ Ok plan → Goal plan
    phase n at phases.Up is e = this Goal _ plan (plans.drops comes tt) e
    phase n at (phases.Held b) is e = this Goal _ plan (held n b at is (is_in b instance) refl) e
    phase n at (phases.Rolling b) is e = rolling n b at is b.parent refl e

    by : (x : Node) → (view s q).node ≡ x → unless_down x (λ n. verdict_in (view s q) t.stored instance agreed n.phase) ≡ Ok plan → Goal plan
    by Down is e = this Goal _ plan (plans.drops comes tt) e
    by (Alive n) is e = phase n (alive-is s q n is) n.phase refl e

heard-found : (s : State) (t : StoreReads) (p q : NodeId) (message : Message) (plan : Plan) → Comes s p q message → hear (view s q) t p message ≡ Ok plan
    → PlanOf s t (Deliver p q) plan
heard-found s t p q (messages.App app) plan comes e = app-found s t p q app plan comes e
heard-found s t p q (messages.CheckAsk ask) plan comes e = check-found s t p q ask plan comes e
heard-found s t p q (messages.RollAsk ask) plan comes e = rollback-found s t p q ask plan comes e
heard-found s t p q (messages.Vote vote) plan comes e = vote-found s t p q vote plan comes e
heard-found s t p q (messages.Verdict instance agreed) plan comes e = verdict-found s t p q instance agreed plan comes e

pub delivery-found : (s : State) (t : StoreReads) (p q : NodeId) (plan : Plan) → IsTrue (are_neighbours s.scene p q)
    → delivery (view s q) t p (link s p q) ≡ Ok plan → PlanOf s t (Deliver p q) plan
delivery-found s t p q plan there e = by (link s p q) refl e
  where
    by : (on : List Message) → link s p q ≡ on → delivery (view s q) t p on ≡ Ok plan → PlanOf s t (Deliver p q) plan
    by [] on e = absurd cc
    by (message ∷ later) on e = heard-found s t p q message plan (record { neighbours = there; later = later; on = on }) e
