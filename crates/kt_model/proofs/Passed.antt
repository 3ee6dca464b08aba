-- What was passed where something is planned: each test and each case on the way to an Ok.
-- Cited by ActsFound, ArrivalsFound, Gives, PlansFound, Saves, StepsFound; other crates.
use Rattle.std.proofs.Common.{◌≡◌, ◌∙◌, ℕ, nat_le, is_some, ◌<◌, ◌&&◌, ◌||◌, arith, Bool, true, false, if◌then◌else◌, Option, Some, None, Result, Ok, Err, refl}
use Rattle.std.proofs.Common.{ap, length}
use Rattle.std.specs.Prelude.{unwrap_or, IsTrue, nat_lt}
use Rattle.std.proofs.lemmas.Bool.{and_parts, le-leb, ltb-false, ltb-true}
use Rattle.kt_tuple.specs.declared.node.NodeId.{NodeId}
use Rattle.kt_state.specs.declared.live.Phase.{Phase}
use Rattle.kt_state.specs.declared.live.Phase.TheVariants as phases
use Rattle.kt_state.specs.declared.plan.Plan.{Plan}
use Rattle.kt_state.specs.declared.refusal.Refusal.{Refusal}
use Rattle.kt_state.specs.Node.{Live, Node, Down, Alive}
use Rattle.kt_state.specs.Plan.{Planned}
use Rattle.kt_node.specs.Steps.{up_in, up_of, by_up}
use Rattle.kt_model.specs.declared.error.StepError.{StepError}
use Rattle.kt_model.specs.declared.error.StepError.TheVariants as refusals
use Rattle.kt_scenario.specs.declared.step.TheConstants.{MAX_STEPS, MAX_NOTES}
use Rattle.kt_model.specs.StepPlan.{has_room, if_room, is_at_limit, of_owner, of_scene, within_limit}
use Rattle.kt_model.specs.State.{State, node, view}
use Rattle.kt_model.specs.auxiliary.Ready.{IsReady}
use Rattle.kt_model.proofs.Plans.{IsAlive}

abbrev pub step_plan : Plan → Planned
step_plan p = Ok p

pub if-passed : (b : Bool) (r : Planned) (refusal : Refusal) (plan : Plan) → (if b then r else Err refusal) ≡ Ok plan → IsTrue b × (r ≡ Ok plan)
if-passed true r refusal plan e = (refl, e)
if-passed false r refusal plan e = absurd cc

if_room-passed : {X : Type 0} (room : Bool) (r : Result X StepError) (x : X) → if_room room r ≡ Ok x → (r ≡ Ok x) × (room ≡ true)
if_room-passed true r x e = (e, refl)
if_room-passed false r x e = absurd cc

-- the limit is not reached
pub limit-passed : {X : Type 0} (room : Bool) (r : Result X StepError) (x : X) → within_limit room r ≡ Ok x → (r ≡ Ok x) × (room ≡ true)
limit-passed room (Ok y) x e = if_room-passed room (Ok y) x e
limit-passed room (Err (refusals.Store refusal)) x e = if_room-passed room (Err (refusals.Store refusal)) x e
limit-passed room (Err refusals.NoNode) x e = absurd cc
limit-passed room (Err refusals.WrongMode) x e = absurd cc
limit-passed room (Err refusals.NothingThere) x e = absurd cc
limit-passed room (Err refusals.NoSuchMatch) x e = absurd cc
limit-passed room (Err refusals.NotDecided) x e = absurd cc
limit-passed room (Err refusals.Unresolved) x e = absurd cc
limit-passed room (Err refusals.StepLimit) x e = absurd cc
limit-passed room (Err refusals.OutOfMemory) x e = absurd cc

-- there is room for a step, and for a note
pub room-made : (s : State) → has_room s ≡ true → s.made < MAX_STEPS
room-made s e = ltb-true s.made MAX_STEPS (and_parts (nat_lt s.made MAX_STEPS) (nat_lt (length s.history) MAX_NOTES) e).0

pub room-noted : (s : State) → has_room s ≡ true → length s.history < MAX_NOTES
room-noted s e = ltb-true (length s.history) MAX_NOTES (and_parts (nat_lt s.made MAX_STEPS) (nat_lt (length s.history) MAX_NOTES) e).1

-- where there is none, all steps were made, or what was found was too much
pub room-none : (s : State) → IsReady s → has_room s ≡ false → is_at_limit s ≡ true
room-none s ready e = by (nat_lt s.made MAX_STEPS) (nat_lt (length s.history) MAX_NOTES) s.found refl refl refl e
  where
    left : (b c : Bool) → b ≡ true → (b || c) ≡ true
    left true c is = refl
    left false c is = absurd cc

    right : (b c : Bool) → c ≡ true → (b || c) ≡ true
    right true c is = refl
    right false c is = is

    by : (b c : Bool) (found : Option ℕ) → nat_lt s.made MAX_STEPS ≡ b → nat_lt (length s.history) MAX_NOTES ≡ c → s.found ≡ found → (b && c) ≡ false
        → is_at_limit s ≡ true
    by true true found made noted is e = absurd cc
    by false c found made noted is e = left _ _ (le-leb MAX_STEPS s.made (ltb-false s.made MAX_STEPS made))
    by true false None made noted is e =
        let few = ready.few_made is in
        let all = ltb-false (length s.history) MAX_NOTES noted in
        let more = ready.few_steps in
        absurd (omega (arith, few, all, more))
    by true false (Some most) made noted is e =
        let full : nat_le MAX_NOTES (length s.history) ≡ true = le-leb MAX_NOTES (length s.history) (ltb-false (length s.history) MAX_NOTES noted) in
        right (nat_le MAX_STEPS s.made) (is_some s.found && nat_le MAX_NOTES (length s.history))
        (ap (λ f. is_some f && nat_le MAX_NOTES (length s.history)) is ∙ full)

pub owner-passed : (r : Planned) (plan : Plan) → of_owner r ≡ Ok plan → r ≡ Ok plan
owner-passed (Ok p) plan e = let same : p ≡ plan = cc in ap (λ q. Ok q) same
owner-passed (Err refusal) plan e = absurd cc

-- the scene has the nodes, and the owner plans
pub scene-passed : (there : Bool) (r : Planned) (plan : Plan) → of_scene there r ≡ Ok plan → IsTrue there × (r ≡ Ok plan)
scene-passed true r plan e = (refl, owner-passed r plan e)
scene-passed false r plan e = absurd cc

-- a node that is seen alive has a row
pub alive-is : (s : State) (p : NodeId) (n : Live) → (view s p).node ≡ Alive n → IsAlive s p n
alive-is s p n e = by (node s p) e
  where
    by : (row : Option Node) → unwrap_or row Down ≡ Alive n → row ≡ Some (Alive n)
    by None e = absurd cc
    by (Some x) e = ap (λ (y : Node). Some y) e

-- the node is up
pub up-passed : (x : Node) (f : Live → Planned) (plan : Plan) (G : Type 0) → ((n : Live) → x ≡ Alive n → n.phase ≡ phases.Up → f n ≡ Ok plan → G)
    → by_up (up_of x) f ≡ Ok plan → G
up-passed Down f plan G go e = absurd cc
up-passed (Alive n) f plan G go e = by n.phase refl e
  where
    by : (phase : Phase) → n.phase ≡ phase → by_up (up_in n phase) f ≡ Ok plan → G
    by phases.Up is e = go n refl is e
    by (phases.Held b) is e = absurd cc
    by (phases.Rolling b) is e = absurd cc
