-- The steps of checks, rollbacks and failures are planned in the ways that are listed.
-- Cited by PlansFound.
use Rattle.std.proofs.Common.{◌≡◌, ℕ, Bool, true, false, ◌&&◌, if◌then◌else◌, [], Option, Some, None, Result, Ok, Err, refl, sym, subst}
use Rattle.std.specs.Prelude.{IsTrue, is_some}
use Rattle.std.proofs.lemmas.Bool.{and_parts}
use Rattle.kt_tuple.specs.declared.node.NodeId.{NodeId}
use Rattle.kt_store.specs.declared.rows.Verdict.{Verdict}
use Rattle.kt_store.specs.declared.rows.Verdict.TheVariants as verdicts
use Rattle.kt_vote.specs.declared.asker.Asker.{Asker}
use Rattle.kt_vote.specs.Poll.{Poll, outcome_of}
use Rattle.kt_state.specs.declared.live.Phase.{Phase}
use Rattle.kt_state.specs.declared.live.Phase.TheVariants as phases
use Rattle.kt_state.specs.declared.plan.Plan.{Plan}
use Rattle.kt_state.specs.declared.refusal.Refusal.{Refusal}
use Rattle.kt_state.specs.declared.refusal.Refusal.TheVariants as refusals
use Rattle.kt_state.specs.Node.{Live, Node, Down, Alive}
use Rattle.kt_state.specs.Stored.{fits, acts_fit, is_undecided}
use Rattle.kt_state.specs.Voting.{voted}
use Rattle.kt_node.specs.Loading.{load}
use Rattle.kt_state.specs.Loading.{header_in}
use Rattle.kt_node.specs.Learning.{restored}
use Rattle.kt_node.specs.Deciding.{check, check_in, check_of, decide, decide_if, decide_by, decide_in, decide_of}
use Rattle.kt_node.specs.Deciding.{decide_plan, abandon, abandon_by, abandon_in, abandon_down, abandon_of, settled}
use Rattle.kt_node.specs.Deciding.{learn, learn_held, learn_rolling, learn_by, learn_in, learn_settled, learn_of, declined_plan}
use Rattle.kt_node.specs.Failing.{fail, fail_of, restart, restarted, restart_down, restart_after, restart_by, restart_in, restart_of}
use Rattle.kt_scenario.specs.declared.step.Step.TheVariants.{Check, Decide, Abandon, Learn, Fail, Restart}
use Rattle.kt_model.specs.declared.store_reads.StoreReads.{StoreReads}
use Rattle.kt_scenario.specs.Scene.{is_node}
use Rattle.kt_model.specs.State.{State, role_of, view}
use Rattle.kt_model.proofs.Plans as plans
use Rattle.kt_model.proofs.Plans.{IsAlive, IsDown, Votes, PlanOf}
use Rattle.kt_node.proofs.Shared.{this}
use Rattle.kt_model.proofs.Passed.{if-passed, alive-is}

held : (phase : Phase) (b : Poll) → phase ≡ phases.Held b → Votes phase b phases.Held
held phase b is = subst (λ (x : Phase). Votes x b phases.Held) (sym is) plans.holds

rolling : (phase : Phase) (b : Poll) → phase ≡ phases.Rolling b → Votes phase b phases.Rolling
rolling phase b is = subst (λ (x : Phase). Votes x b phases.Rolling) (sym is) plans.rolls

pub check-found : (s : State) (t : StoreReads) (p : NodeId) (plan : Plan) → IsTrue (is_node s.scene p) → check (view s p) t.next t.permanent ≡ Ok plan
    → PlanOf s t (Check p) plan
check-found s t p plan there e = by (view s p).node refl e
  where
    Goal : Plan → Type 0
    Goal = PlanOf s t (Check p)

    phase : (n : Live) → IsAlive s p n → (x : Phase) → n.phase ≡ x → check_in (view s p) t.next t.permanent n x ≡ Ok plan → Goal plan
    phase n at phases.Up is e =
        let passed = if-passed (fits (role_of s.scene p) (view s p).line_len t.permanent && acts_fit (role_of s.scene p) (view s p).acts)
        _ refusals.Damaged plan e in
        let both = and_parts (fits (role_of s.scene p) (view s p).line_len t.permanent) (acts_fit (role_of s.scene p) (view s p).acts) passed.0 in
        this Goal _ plan (plans.begins_check there at is both.0 both.1) passed.1
    phase n at (phases.Held b) is e = absurd cc
    phase n at (phases.Rolling b) is e = absurd cc

    by : (x : Node) → (view s p).node ≡ x → check_of (view s p) t.next t.permanent x ≡ Ok plan → Goal plan
    by Down is e = absurd cc
    by (Alive n) is e = phase n (alive-is s p n is) n.phase refl e

pub decide-found : (s : State) (t : StoreReads) (p : NodeId) (plan : Plan) → IsTrue (is_node s.scene p) → decide (view s p) t.verdict ≡ Ok plan
    → PlanOf s t (Decide p) plan
decide-found s t p plan there e = by (view s p).node refl e
  where
    Goal : Plan → Type 0
    Goal = PlanOf s t (Decide p)

    outcome : (n : Live) (b : Poll) (phase : Poll → Phase) (x : Phase) → IsAlive s p n → n.phase ≡ x → Votes n.phase b phase → b.parent ≡ None
        → IsTrue (is_undecided t.verdict)
        → (o : Option Bool) → outcome_of b ≡ o → decide_if x b o ≡ Ok plan → Goal plan
    outcome n b phase x at is votes own undecided None comes e = absurd cc
    outcome n b phase x at is votes own undecided (Some agreed) comes e =
        let here : Goal (decide_plan x b agreed) = subst (λ (y : Phase). Goal (decide_plan y b agreed)) is (plans.decides there at votes own undecided comes) in
        this Goal _ plan here e

    asked : (n : Live) (b : Poll) (phase : Poll → Phase) (x : Phase) → IsAlive s p n → n.phase ≡ x → Votes n.phase b phase → (o : Option Asker) → b.parent ≡ o
        → decide_by x b t.verdict o ≡ Ok plan → Goal plan
    asked n b phase x at is votes (Some parent) own e = absurd cc
    asked n b phase x at is votes None own e =
        let passed = if-passed (is_undecided t.verdict) _ refusals.NothingThere plan e in
        outcome n b phase x at is votes own passed.0 (outcome_of b) refl passed.1

    phase : (n : Live) → IsAlive s p n → (x : Phase) → n.phase ≡ x → decide_in t.verdict x ≡ Ok plan → Goal plan
    phase n at phases.Up is e = absurd cc
    phase n at (phases.Held b) is e = asked n b phases.Held (phases.Held b) at is (held n.phase b is) b.parent refl e
    phase n at (phases.Rolling b) is e = asked n b phases.Rolling (phases.Rolling b) at is (rolling n.phase b is) b.parent refl e

    by : (x : Node) → (view s p).node ≡ x → decide_of t.verdict x ≡ Ok plan → Goal plan
    by Down is e = absurd cc
    by (Alive n) is e = phase n (alive-is s p n is) n.phase refl e

pub abandon-found : (s : State) (t : StoreReads) (p : NodeId) (plan : Plan) → IsTrue (is_node s.scene p) → abandon (view s p) t.verdict t.undecided ≡ Ok plan
    → PlanOf s t (Abandon p) plan
abandon-found s t p plan there e = by (view s p).node refl e
  where
    Goal : Plan → Type 0
    Goal = PlanOf s t (Abandon p)

    declines : (n : Live) (b : Poll) (phase : Poll → Phase) (parent : Asker) → IsAlive s p n → Votes n.phase b phase → b.parent ≡ Some parent
        → (c : Bool) → b.voted ≡ c → (if c then Err refusals.NothingThere else Ok (declined_plan (phase (voted b)) b.instance parent)) ≡ Ok plan → Goal plan
    declines n b phase parent at votes asked true has e = absurd cc
    declines n b phase parent at votes asked false has e = this Goal _ plan (plans.declines there at votes asked has) e

    asked : (n : Live) (b : Poll) (phase : Poll → Phase) → IsAlive s p n → Votes n.phase b phase → (o : Option Asker) → b.parent ≡ o
        → abandon_by phase b t.verdict o ≡ Ok plan → Goal plan
    asked n b phase at votes (Some parent) own e = declines n b phase parent at votes own b.voted refl e
    asked n b phase at votes None own e =
        let passed = if-passed (is_undecided t.verdict) _ refusals.NothingThere plan e in
        this Goal _ plan (plans.gives_up there at votes own passed.0) passed.1

    phase : (n : Live) → IsAlive s p n → (x : Phase) → n.phase ≡ x → abandon_in t.verdict x ≡ Ok plan → Goal plan
    phase n at phases.Up is e = absurd cc
    phase n at (phases.Held b) is e = asked n b phases.Held at (held n.phase b is) b.parent refl e
    phase n at (phases.Rolling b) is e = asked n b phases.Rolling at (rolling n.phase b is) b.parent refl e

    down : IsDown s p → (o : Option ℕ) → t.undecided ≡ o → abandon_down o ≡ Ok plan → Goal plan
    down is None has e = absurd cc
    down is (Some instance) has e = this Goal _ plan (plans.gives_up_down there is has) e

    by : (x : Node) → (view s p).node ≡ x → abandon_of t.verdict t.undecided x ≡ Ok plan → Goal plan
    by Down is e = down is t.undecided refl e
    by (Alive n) is e = phase n (alive-is s p n is) n.phase refl e

pub learn-found : (s : State) (t : StoreReads) (p : NodeId) (plan : Plan) → IsTrue (is_node s.scene p)
    → learn (view s p) t.stored (is_some t.tentative) t.verdict ≡ Ok plan
    → PlanOf s t (Learn p) plan
learn-found s t p plan there e = by (view s p).node refl e
  where
    Goal : Plan → Type 0
    Goal = PlanOf s t (Learn p)

    loads : (n : Live) (b : Poll) (parent : Asker) → IsAlive s p n → n.phase ≡ phases.Rolling b → b.parent ≡ Some parent → settled t.verdict ≡ Some true
        → (r : Result Live Refusal) → load (view s p) t.stored ≡ r → restored (view s p) t.stored [] r ≡ Ok plan → Goal plan
    loads n b parent at is asked knows (Err refusal) gives e = absurd cc
    loads n b parent at is asked knows (Ok live) gives e = this Goal _ plan (plans.learns_to_roll there at is asked knows gives) e

    rolls : (n : Live) (b : Poll) (parent : Asker) → IsAlive s p n → n.phase ≡ phases.Rolling b → b.parent ≡ Some parent → (o : Option Bool)
        → settled t.verdict ≡ o
        → learn_rolling (view s p) t.stored o ≡ Ok plan → Goal plan
    rolls n b parent at is asked None knows e = absurd cc
    rolls n b parent at is asked (Some true) knows e = loads n b parent at is asked knows (load (view s p) t.stored) refl e
    rolls n b parent at is asked (Some false) knows e = this Goal _ plan (plans.learns_to_go_on there at is asked knows) e

    asked : (n : Live) (b : Poll) → IsAlive s p n → n.phase ≡ phases.Rolling b → (o : Option Asker) → b.parent ≡ o
        → learn_by (view s p) t.stored (settled t.verdict) o ≡ Ok plan → Goal plan
    asked n b at is None by e = absurd cc
    asked n b at is (Some parent) by e = rolls n b parent at is by (settled t.verdict) refl e

    holds : (n : Live) (b : Poll) → IsAlive s p n → n.phase ≡ phases.Held b → (o : Option Bool) → settled t.verdict ≡ o → learn_held o ≡ Ok plan → Goal plan
    holds n b at is None knows e = absurd cc
    holds n b at is (Some agreed) knows e = this Goal _ plan (plans.learns_when_held there at is knows) e

    phase : (n : Live) → IsAlive s p n → (x : Phase) → n.phase ≡ x → learn_in (view s p) t.stored (settled t.verdict) x ≡ Ok plan → Goal plan
    phase n at phases.Up is e = absurd cc
    phase n at (phases.Held b) is e = holds n b at is (settled t.verdict) refl e
    phase n at (phases.Rolling b) is e = asked n b at is b.parent refl e

    down : IsDown s p → is_some t.tentative ≡ true → (o : Option Bool) → settled t.verdict ≡ o → learn_settled (view s p) t.stored o ≡ Ok plan → Goal plan
    down is some None knows e = absurd cc
    down is some (Some true) knows e = this Goal _ plan (plans.learns_yes_down there is some knows) e
    down is some (Some false) knows e =
        let passed = if-passed (fits (role_of s.scene p) (view s p).line_len (header_in t.stored)) _ refusals.Damaged plan e in
        this Goal _ plan (plans.learns_no_down there is some knows passed.0) passed.1

    by : (x : Node) → (view s p).node ≡ x → learn_of (view s p) t.stored (is_some t.tentative) (settled t.verdict) x ≡ Ok plan → Goal plan
    by Down is e =
        let passed = if-passed (is_some t.tentative) _ refusals.NothingThere plan e in
        down is passed.0 (settled t.verdict) refl passed.1
    by (Alive n) is e = phase n (alive-is s p n is) n.phase refl e

pub fail-found : (s : State) (t : StoreReads) (p : NodeId) (plan : Plan) → IsTrue (is_node s.scene p)
    → fail (view s p) t.verdict t.permanent t.tentative ≡ Ok plan → PlanOf s t (Fail p) plan
fail-found s t p plan there e = by (view s p).node refl e
  where
    by : (x : Node) → (view s p).node ≡ x → fail_of (view s p) t.verdict t.permanent t.tentative x ≡ Ok plan → PlanOf s t (Fail p) plan
    by Down is e = absurd cc
    by (Alive n) is e =
        let permanent : Bool = fits (role_of s.scene p) (view s p).line_len t.permanent in
        let tentative : Bool = fits (role_of s.scene p) (view s p).line_len t.tentative in
        let passed = if-passed (permanent && tentative) _ refusals.Damaged plan e in
        let both = and_parts permanent tentative passed.0 in
        this (PlanOf s t (Fail p)) _ plan (plans.fails there (alive-is s p n is) both.0 both.1) passed.1

pub restart-found : (s : State) (t : StoreReads) (p : NodeId) (plan : Plan) → IsTrue (is_node s.scene p)
    → restart (view s p) t.stored t.next (is_some t.tentative) t.undecided t.verdict ≡ Ok plan → PlanOf s t (Restart p) plan
restart-found s t p plan there e = by (view s p).node refl e
  where
    Goal : Plan → Type 0
    Goal = PlanOf s t (Restart p)

    loads : IsDown s p → is_some t.tentative ≡ false → t.undecided ≡ None → (r : Result Live Refusal) → load (view s p) t.stored ≡ r
        → restarted (view s p) t.stored t.next r ≡ Ok plan → Goal plan
    loads is none free (Err refusal) gives e = absurd cc
    loads is none free (Ok live) gives e = this Goal _ plan (plans.restarts there is none free gives) e

    down : IsDown s p → (c : Bool) → is_some t.tentative ≡ c → (o : Option ℕ) → t.undecided ≡ o
        → restart_down (view s p) t.stored t.next c o ≡ Ok plan → Goal plan
    down is true some o free e = absurd cc
    down is false some (Some instance) free e = absurd cc
    down is false some None free e = loads is some free (load (view s p) t.stored) refl e

    anew : (n : Live) (b : Poll) → IsAlive s p n → n.phase ≡ phases.Rolling b → b.parent ≡ None → t.verdict ≡ Some verdicts.No
        → (r : Result Live Refusal) → load (view s p) t.stored ≡ r → restarted (view s p) t.stored t.next r ≡ Ok plan → Goal plan
    anew n b at is own refused (Err refusal) gives e = absurd cc
    anew n b at is own refused (Ok live) gives e = this Goal _ plan (plans.restarts_anew there at is own refused gives) e

    after : (n : Live) (b : Poll) → IsAlive s p n → n.phase ≡ phases.Rolling b → b.parent ≡ None → (o : Option Verdict) → t.verdict ≡ o
        → restart_after (view s p) t.stored t.next o ≡ Ok plan → Goal plan
    after n b at is own None has e = absurd cc
    after n b at is own (Some verdicts.Open) has e = absurd cc
    after n b at is own (Some verdicts.Yes) has e = absurd cc
    after n b at is own (Some verdicts.No) has e = anew n b at is own has (load (view s p) t.stored) refl e

    asked : (n : Live) (b : Poll) → IsAlive s p n → n.phase ≡ phases.Rolling b → (o : Option Asker) → b.parent ≡ o
        → restart_by (view s p) t.stored t.next t.verdict o ≡ Ok plan → Goal plan
    asked n b at is (Some parent) by e = absurd cc
    asked n b at is None by e = after n b at is by t.verdict refl e

    phase : (n : Live) → IsAlive s p n → (x : Phase) → n.phase ≡ x → restart_in (view s p) t.stored t.next t.verdict x ≡ Ok plan → Goal plan
    phase n at phases.Up is e = absurd cc
    phase n at (phases.Held b) is e = absurd cc
    phase n at (phases.Rolling b) is e = asked n b at is b.parent refl e

    by : (x : Node) → (view s p).node ≡ x → restart_of (view s p) t.stored t.next (is_some t.tentative) t.undecided t.verdict x ≡ Ok plan → Goal plan
    by Down is e = down is (is_some t.tentative) refl t.undecided refl e
    by (Alive n) is e = phase n (alive-is s p n is) n.phase refl e
