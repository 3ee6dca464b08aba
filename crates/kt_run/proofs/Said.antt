-- Each step that is made can be said by a line: its nodes are of the scene, and its place is below the number of steps made.
-- Cited by Replayed, `laws::what_was_made_can_be_said`.
use Rattle.std.proofs.Common.{◌≡◌, ℕ, zero, suc, ◌<◌, ◌≤◌, Bool, true, false, cond, eqb, ltb, List, [], ◌∷◌, length, Option, Some, None, Result, Ok, Err, refl}
use Rattle.std.proofs.Common.{ap, sym, ◌∙◌, subst, arith}
use Rattle.std.proofs.lemmas.Bool.{eqb-true, ltb-true, and_parts}
use Rattle.std.proofs.lemmas.List.Elements.{All-nil, All-cons, All-head, All-tail}
use Rattle.std.proofs.lemmas.List.Filters.{length-filter_both}
use Rattle.std.proofs.lemmas.Option.{slice_get_within}
use Rattle.std.specs.Prelude.{All, IfSome, not, slice_get, unwrap_or}
use Rattle.std.specs.Option.{option_map}
use Rattle.kt_tuple.specs.declared.node.NodeId.{NodeId}
use Rattle.kt_tuple.specs.declared.node.NodeId.TheVariants as ids
use Rattle.kt_tuple.specs.declared.tuple.Tuple.{Tuple}
use Rattle.kt_tuple.specs.declared.template.Template.{Template}
use Rattle.kt_tuple.specs.declared.op.Op.{Op}
use Rattle.kt_tuple.specs.declared.op.Op.TheVariants as ops
use Rattle.kt_tuple.specs.declared.op.Answer.{Answer}
use Rattle.kt_tuple.specs.declared.op.Answer.TheVariants as answers
use Rattle.kt_tuple.specs.Matching.{matches}
use Rattle.kt_space.specs.Picking.{matching}
use Rattle.kt_script.specs.declared.command.Command.{Command}
use Rattle.kt_script.specs.Rules.{IsScript}
use Rattle.kt_shard.specs.declared.request.Request.{Request}
use Rattle.kt_shard.specs.Shard.{Shard, session_of}
use Rattle.kt_shard.specs.Service.{Service, got_or_none, answer_at, service_if, service_of, service}
use Rattle.kt_state.specs.declared.live.Phase.{Phase}
use Rattle.kt_state.specs.declared.live.Phase.TheVariants as phases
use Rattle.kt_state.specs.declared.plan.Plan.{Plan}
use Rattle.kt_state.specs.Node.{Body, IsWorker, IsShard, Live, Node, Down, Alive, shard_in, node_number}
use Rattle.kt_state.specs.Plan.{Planned}
use Rattle.kt_node.specs.Steps.{up_in, up_of, by_up, serve_by, serve_found}
use Rattle.kt_scenario.specs.declared.step.Step.{Step}
use Rattle.kt_scenario.specs.declared.step.Step.TheVariants.{Issue, Repeat, Deliver, Take, Serve, Check, Decide, Abandon}
use Rattle.kt_scenario.specs.declared.step.Step.TheVariants.{Learn, Fail, Restart}
use Rattle.kt_model.specs.declared.error.StepError.{StepError}
use Rattle.kt_model.specs.declared.error.StepError.TheVariants as refusals
use Rattle.kt_scenario.specs.Scene.{SceneModel, IsScene, is_worker, is_shard, is_in_scene}
use Rattle.kt_model.specs.Effect.{applied_if, step_result}
use Rattle.kt_model.specs.StepPlan.{of_scene, owner_plan, has_room, unlimited_plan, within_limit, step_plan}
use Rattle.kt_scenario.specs.declared.step.TheConstants.{MAX_STEPS}
use Rattle.kt_logs.specs.Cause.{cause_of_waiting}
use Rattle.kt_model.specs.Reached.{opening}
use Rattle.kt_model.specs.auxiliary.Ready.{IsReady, IsBodyReady, IsLiveReady, IsNodeReady}
use Rattle.kt_model.specs.Short.{IsShort, AreShort}
use Rattle.kt_model.specs.State.{State, node, role_of, view}
use Rattle.kt_model.specs.StoreReads.{store_reads}
use Rattle.kt_model.proofs.Shared.{Holds, owner-passed, plan-few, step-made, made-holds, opening-holds, Ends, to_shard, to_worker, ends}
use Rattle.kt_scenario.proofs.Shared.{worker-node, shard-node}
use Rattle.kt_scene.specs.Runs.{RunsTo}
use Rattle.kt_text.specs.Scenario.{IsStepNode, IsStep}
use Rattle.kt_text.proofs.Shared.{node_said}
use Rattle.kt_core.proofs.Shared.{of_script}

-- ---- what is known of a step that is made

record IsDue (s : State) (step : Step) : Type 0 where
  there : is_in_scene s.scene step ≡ true
  plan : Plan
  is_due : owner_plan s (store_reads s step) step ≡ Ok plan
  few : s.made < MAX_STEPS

scene_plans : (there : Bool) (r : Planned) (plan : Plan) → of_scene there r ≡ Ok plan → (there ≡ true) × (r ≡ Ok plan)
scene_plans true r plan e = (refl, owner-passed r plan e)
scene_plans false r plan e = absurd cc

limit_by_test : (b : Bool) (r : Result Plan StepError) (plan : Plan) → cond b r (Err refusals.StepLimit) ≡ Ok plan → (b ≡ true) × (r ≡ Ok plan)
limit_by_test true r plan e = (refl, e)
limit_by_test false r plan e = absurd cc

never_planned : (refusal : StepError) (room : Bool) (plan : Plan) → within_limit room (Err refusal) ≡ Ok plan → ⊥
never_planned (refusals.Store cause) room plan e =
    let h = limit_by_test room (Err (refusals.Store cause)) plan e in
    let never = h.1 in
    absurd cc
never_planned refusals.NoNode room plan e = absurd cc
never_planned refusals.WrongMode room plan e = absurd cc
never_planned refusals.NothingThere room plan e = absurd cc
never_planned refusals.NoSuchMatch room plan e = absurd cc
never_planned refusals.NotDecided room plan e = absurd cc
never_planned refusals.Unresolved room plan e = absurd cc
never_planned refusals.StepLimit room plan e = absurd cc
never_planned refusals.OutOfMemory room plan e = absurd cc

limit_plans : (r : Result Plan StepError) (room : Bool) (plan : Plan) → within_limit room r ≡ Ok plan → r ≡ Ok plan
limit_plans (Ok found) room plan e = (limit_by_test room (Ok found) plan e).1
limit_plans (Err refusal) room plan e = absurd (never_planned refusal room plan e)

due_by_plan : (r : Result Plan StepError) (s : State) (step : Step) (new : State) → step_plan s step ≡ r → applied_if s step r ≡ Ok new → IsDue s step
due_by_plan (Err refusal) s step new is e = absurd cc
due_by_plan (Ok plan) s step new is e =
    let h = limit_plans (unlimited_plan s (store_reads s step) step) (has_room s) plan is in
    let k = scene_plans (is_in_scene s.scene step) (owner_plan s (store_reads s step) step) plan h in
    record { there = k.0; plan = plan; is_due = k.1; few = plan-few s (store_reads s step) step plan is }

made_due : (s : State) (step : Step) (new : State) → step_result s step ≡ Ok new → IsDue s step
made_due s step new e = due_by_plan (step_plan s step) s step new refl e

-- ---- the place of a service

first_place : (b : Bool) (place : ℕ) (answer given : Answer) → eqb place 0 ≡ b → cond b (Some answer) None ≡ Some given → place ≡ 0
first_place true place answer given test e = eqb-true place 0 test
first_place false place answer given test e = absurd cc

fewer_match : (t : Template) (bag : List Tuple) → length (matching t bag) ≤ length bag
fewer_match t bag =
    let both = length-filter_both (matches t) (λ u. not (matches t u)) (λ u. refl) bag in
    omega (arith, both)

found_place : (found : Option Tuple) (t : Template) (bag : List Tuple) (place : ℕ) (given : Answer) → slice_get (matching t bag) place ≡ found
    → option_map answers.Got found ≡ Some given → place ≤ length bag
found_place None t bag place given is e = absurd cc
found_place (Some u) t bag place given is e =
    let below = slice_get_within (matching t bag) place u is in
    let few = fewer_match t bag in
    omega (arith, below, few)

maybe_place : (found : Option Tuple) (t : Template) (bag : List Tuple) (place : ℕ) (given : Answer) → slice_get (matching t bag) place ≡ found
    → got_or_none place found ≡ Some given → place ≤ length bag
maybe_place None t bag place given is e =
    let zeroth = first_place (eqb place 0) place answers.None given refl e in
    omega (arith, zeroth)
maybe_place (Some u) t bag place given is e =
    let below = slice_get_within (matching t bag) place u is in
    let few = fewer_match t bag in
    omega (arith, below, few)

answer_place : (op : Op) (bag : List Tuple) (place : ℕ) (given : Answer) → answer_at bag op place ≡ Some given → place ≤ length bag
answer_place (ops.Out u) bag place given e =
    let zeroth = first_place (eqb place 0) place answers.Done given refl e in
    omega (arith, zeroth)
answer_place (ops.In t) bag place given e = found_place (slice_get (matching t bag) place) t bag place given refl e
answer_place (ops.Rd t) bag place given e = found_place (slice_get (matching t bag) place) t bag place given refl e
answer_place (ops.Inp t) bag place given e = maybe_place (slice_get (matching t bag) place) t bag place given refl e
answer_place (ops.Rdp t) bag place given e = maybe_place (slice_get (matching t bag) place) t bag place given refl e

by_answer : (given : Option Answer) (request : Request) (bag : List Tuple) (place : ℕ) (found : Service) → answer_at bag request.op place ≡ given
    → service_if request place given ≡ Ok found → place ≤ length bag
by_answer None request bag place found is e = absurd cc
by_answer (Some answer) request bag place found is e = answer_place request.op bag place answer is

by_waiting : (waiting : Option Request) (bag : List Tuple) (place : ℕ) (found : Service) → service_of bag waiting place ≡ Ok found → place ≤ length bag
by_waiting None bag place found e = absurd cc
by_waiting (Some request) bag place found e = by_answer (answer_at bag request.op place) request bag place found refl e

-- ---- the shard of a service has no more tuples than steps were made

-- the shard that serves
record IsServing (s : State) (p : NodeId) (worker place : ℕ) : Type 0 where
  live : Live
  alive : node s p ≡ Some (Alive live)
  shard : Shard
  is_shard : live.body ≡ IsShard shard
  found : Service
  serves : service shard worker place ≡ Ok found

alive_in : (row : Option Node) (n : Live) → unwrap_or row Down ≡ Alive n → row ≡ Some (Alive n)
alive_in None n e = absurd cc
alive_in (Some x) n e = ap (λ (y : Node). Some y) e

by_phase : (phase : Phase) (n found : Live) → n.phase ≡ phase → up_in n phase ≡ Some found → n ≡ found
by_phase phases.Up n found is e = cc
by_phase (phases.Held b) n found is e = absurd cc
by_phase (phases.Rolling b) n found is e = absurd cc

up_is_alive : (x : Node) (found : Live) → up_of x ≡ Some found → x ≡ Alive found
up_is_alive Down found e = absurd cc
up_is_alive (Alive n) found e = ap (λ (m : Live). Alive m) (by_phase n.phase n found refl e)

by_body : (body : Body) (shard : Shard) → shard_in body ≡ Some shard → body ≡ IsShard shard
by_body (IsWorker x) shard e = absurd cc
by_body (IsShard y) shard e =
    let same : y ≡ shard = cc in
    ap (λ (z : Shard). IsShard z) same

module _ (s : State) (p : NodeId) (worker place cause : ℕ) (plan : Plan) where
  by_service : (r : Result Service _) (n : Live) (y : Shard) → node s p ≡ Some (Alive n) → n.body ≡ IsShard y → service y worker place ≡ r
      → serve_found (view s p) n worker cause r ≡ Ok plan → IsServing s p worker place
  by_service (Err refusal) n y alive is_shard serves e = absurd cc
  by_service (Ok found) n y alive is_shard serves e =
      record { live = n; alive = alive; shard = y; is_shard = is_shard; found = found; serves = serves }

  by_shard : (shard : Option Shard) (n : Live) → node s p ≡ Some (Alive n) → shard_in n.body ≡ shard → serve_by (view s p) n worker place cause shard ≡ Ok plan
      → IsServing s p worker place
  by_shard None n alive is e = absurd cc
  by_shard (Some y) n alive is e = by_service (service y worker place) n y alive (by_body n.body y is) refl e

  by_live : (up : Option Live) → up_of (view s p).node ≡ up
      → by_up up (λ (n : Live). serve_by (view s p) n worker place cause (shard_in n.body)) ≡ Ok plan → IsServing s p worker place
  by_live None is e = absurd cc
  by_live (Some n) is e = by_shard (shard_in n.body) n (alive_in (node s p) n (up_is_alive (view s p).node n is)) refl e

-- with no more tuples than there are notes
bag_by_name : (p : NodeId) (script : List Command) (notes : ℕ) (y : Shard) (scene : SceneModel) → is_shard scene p ≡ true
    → IsBodyReady script notes p (IsShard y)
    → length y.bag ≤ notes
bag_by_name (ids.Worker n) script notes y scene there h = absurd h
bag_by_name (ids.Shard n) script notes y scene there h = h

place_small : (s : State) (p : NodeId) (worker place : ℕ) → IsReady s → s.found ≡ None → s.made < MAX_STEPS → is_shard s.scene p ≡ true
    → IsServing s p worker place → place ≤ 99999
place_small s p worker place ready new few there h =
    let Held : Option Node → Type 0 = λ row. IfSome row (IsNodeReady s.scene s.history s.made p) in
    let live : IsLiveReady s.scene s.history s.made p h.live = subst Held h.alive (ready.nodes p) in
    let body = subst (IsBodyReady (role_of s.scene p).script (length s.history) p) h.is_shard live.body in
    let bag = bag_by_name p (role_of s.scene p).script (length s.history) h.shard s.scene there body in
    let notes = ready.few_made new in
    let at = by_waiting (session_of h.shard worker).waiting h.shard.bag place h.found h.serves in
    omega (arith, few, bag, notes, at)

-- ---- each step

neighbours_said : (scene : SceneModel) → IsScene scene → (p q : NodeId) → Ends scene p q → IsStepNode p × IsStepNode q
neighbours_said scene is p q (to_shard a b c d) = ((a, omega (arith, b, is.few_workers)), (c, omega (arith, d, is.few_shards)))
neighbours_said scene is p q (to_worker a b c d) = ((c, omega (arith, d, is.few_shards)), (a, omega (arith, b, is.few_workers)))

step_said : (s : State) (step : Step) → IsReady s → s.found ≡ None → IsDue s step → IsStep step
step_said s (Issue p) ready new h = node_said s.scene ready.scene p (worker-node s.scene p h.there)
step_said s (Repeat p) ready new h = node_said s.scene ready.scene p (worker-node s.scene p h.there)
step_said s (Deliver p q) ready new h = neighbours_said s.scene ready.scene p q (ends s.scene p q h.there)
step_said s (Take p) ready new h = node_said s.scene ready.scene p h.there
step_said s (Serve p w place) ready new h =
    let both = and_parts (is_shard s.scene p) (is_worker s.scene w) h.there in
    let cause = cause_of_waiting s.history p (node_number w) in
    let serving = by_live s p (node_number w) place cause h.plan (up_of (view s p).node) refl h.is_due in (
      node_said s.scene ready.scene p (shard-node s.scene p both.0),
      node_said s.scene ready.scene w (worker-node s.scene w both.1),
      place_small s p (node_number w) place ready new h.few both.0 serving,
    )
step_said s (Check p) ready new h = node_said s.scene ready.scene p h.there
step_said s (Decide p) ready new h = node_said s.scene ready.scene p h.there
step_said s (Abandon p) ready new h = node_said s.scene ready.scene p h.there
step_said s (Learn p) ready new h = node_said s.scene ready.scene p h.there
step_said s (Fail p) ready new h = node_said s.scene ready.scene p h.there
step_said s (Restart p) ready new h = node_said s.scene ready.scene p h.there

steps_said : (s : State) (steps : List Step) (t : State) → Holds s → s.found ≡ None → RunsTo s steps t → All IsStep steps
steps_said s [] t holds new runs = All-nil IsStep
steps_said s (step ∷ later) t holds new runs =
    let here = step_said s step holds.ready new (made_due s step runs.0 runs.1) in
    let made = step-made s step runs.0 runs.1 in
    let still : runs.0.found ≡ None = ap (λ (x : State). x.found) (sym made.leads) ∙ new in
    All-cons IsStep step later here (steps_said runs.0 later t (made-holds s step runs.0 holds made) still runs.2)

short_at : (scripts : List (List Command)) (n : ℕ) → All IsScript scripts → IfSome (slice_get scripts n) IsShort
short_at [] n h = tt
short_at (script ∷ later) zero h = of_script script (All-head IsScript script later h)
short_at (script ∷ later) (suc n) h = short_at later n (All-tail IsScript script later h)

all_short : (scene : SceneModel) → All IsScript scene.scripts → AreShort scene
all_short scene h zero = tt
all_short scene h (suc n) = short_at scene.scripts n h

-- the steps that lead from an opening can be said
pub made_is_said : (scene : SceneModel) (steps : List Step) (s : State) → IsScene scene → All IsScript scene.scripts → RunsTo (opening scene) steps s
    → All IsStep steps
made_is_said scene steps s is scripts runs = steps_said (opening scene) steps s (opening-holds scene is (all_short scene scripts)) refl runs
