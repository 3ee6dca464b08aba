-- Nor is one of a node that is down with something tentative, whatever its checkpoints are.
-- Cited by Lasting.
use Rattle.std.proofs.Common.{◌≡◌, ℕ, Bool, true, List, [], ◌∷◌, Option, None, Some, Err, refl}
use Rattle.std.proofs.Common.{subst, sym}
use Rattle.std.specs.Prelude.{is_some}
use Rattle.kt_tuple.specs.declared.node.NodeId.{NodeId}
use Rattle.kt_ckpt.specs.declared.header.CkptHeader.{CkptHeader}
use Rattle.kt_store.specs.declared.error.StoreError.{StoreError}
use Rattle.kt_store.specs.declared.rows.Verdict.{Verdict}
use Rattle.kt_store.specs.declared.rows.Verdict.TheVariants as verdicts
use Rattle.kt_state.specs.declared.message.Message.{Message}
use Rattle.kt_state.specs.declared.message.Message.TheVariants as messages
use Rattle.kt_state.specs.declared.message.AppMessage.{AppMessage}
use Rattle.kt_state.specs.declared.stored.Stored.{Stored}
use Rattle.kt_node.specs.Deciding.{abandon, check, decide}
use Rattle.kt_node.specs.Deciding.{learn}
use Rattle.kt_node.specs.Deciding.{learn_settled, settled}
use Rattle.kt_node.specs.Failing.{fail, restart}
use Rattle.kt_state.specs.Loading.{header_in}
use Rattle.kt_state.specs.Node.{Node, Down}
use Rattle.kt_node.specs.Steps.{issue, repeat, serve}
use Rattle.kt_node.specs.Steps.{take}
use Rattle.kt_state.specs.Stored.{fits}
use Rattle.kt_node.specs.View.{View}
use Rattle.kt_scenario.specs.declared.step.Step.{Step}
use Rattle.kt_scenario.specs.declared.step.Step.TheVariants.{Issue, Repeat, Deliver, Take, Serve, Check, Decide, Abandon, Learn, Fail, Restart}
use Rattle.kt_model.specs.declared.error.StepError.TheVariants as refusals
use Rattle.kt_scenario.specs.Scene.{is_in_scene}
use Rattle.kt_model.specs.declared.store_reads.StoreReads.{StoreReads}
use Rattle.kt_scenario.specs.Step.{owner}
use Rattle.kt_model.specs.StepPlan.{unlimited_plan, delivery, owner_plan, hear}
use Rattle.kt_model.specs.State.{State, link, role_of, view}
use Rattle.kt_model.specs.StoreReads.{store_reads}
use Rattle.kt_model.proofs.FitBodies.{Fine}
use Rattle.kt_model.proofs.Undamaged.{fine, wrong, nothing, undecided, unresolved, passes, either, issue-fine, repeat-fine, take-fine, serve-fine}
use Rattle.kt_model.proofs.Undamaged.{decide-fine, abandon-fine, delivered, scene-damaged}

-- ---- a node that is down, of which something tentative is stored, whatever its checkpoints are

at-down : (v : View) (P : View → Type 0) → v.node ≡ Down → P record v { node = Down } → P v
at-down v P down is = subst (λ (x : Node). P record v { node = x }) (sym down) is

check-down : (v : View) (next : ℕ) (o : Option CkptHeader) → v.node ≡ Down → Fine (check v next o)
check-down v next o down = at-down v (λ u. Fine (check u next o)) down wrong

fail-down : (v : View) (verdict : Option Verdict) (o t : Option CkptHeader) → v.node ≡ Down → Fine (fail v verdict o t)
fail-down v verdict o t down = at-down v (λ u. Fine (fail u verdict o t)) down wrong

restart-down : (v : View) (s : Stored) (next : ℕ) (own : Option ℕ) (verdict : Option Verdict) → v.node ≡ Down → Fine (restart v s next true own verdict)
restart-down v s next own verdict down = at-down v (λ u. Fine (restart u s next true own verdict)) down unresolved

-- only a No asks what the permanent checkpoint is
learn-down : (v : View) (s : Stored) (is_tentative : Bool) (verdict : Option Verdict) → v.node ≡ Down
    → (verdict ≡ Some verdicts.No → fits v.role v.line_len (header_in s) ≡ true) → Fine (learn v s is_tentative verdict)
learn-down v s is_tentative verdict down fit =
    at-down v (λ u. (verdict ≡ Some verdicts.No → fits u.role u.line_len (header_in s) ≡ true) → Fine (learn u s is_tentative verdict)) down
    (λ fit. either is_tentative _ _ (by verdict fit) nothing) fit
  where
    by : (o : Option Verdict) → (o ≡ Some verdicts.No → fits v.role v.line_len (header_in s) ≡ true)
        → Fine (learn_settled record v { node = Down } s (settled o))
    by None fit = undecided
    by (Some verdicts.Open) fit = undecided
    by (Some verdicts.Yes) fit = fine _
    by (Some verdicts.No) fit = passes (fits v.role v.line_len (header_in s)) _ (fit refl) (fine _)

hear-down : (v : View) (t : StoreReads) (p : NodeId) (m : Message) → v.node ≡ Down → Fine (hear v t p m)
hear-down v t p (messages.App app) down = at-down v (λ u. Fine (hear u t p (messages.App app))) down (fine _)
hear-down v t p (messages.CheckAsk ask) down = at-down v (λ u. Fine (hear u t p (messages.CheckAsk ask))) down (fine _)
hear-down v t p (messages.RollAsk ask) down = at-down v (λ u. Fine (hear u t p (messages.RollAsk ask))) down (fine _)
hear-down v t p (messages.Vote vote) down = at-down v (λ u. Fine (hear u t p (messages.Vote vote))) down (fine _)
hear-down v t p (messages.Verdict instance agreed) down = at-down v (λ u. Fine (hear u t p (messages.Verdict instance agreed))) down (fine _)

delivered-down : (v : View) (t : StoreReads) (p : NodeId) (l : List Message) → v.node ≡ Down → Fine (delivery v t p l)
delivered-down v t p [] down = nothing
delivered-down v t p (m ∷ later) down = hear-down v t p m down

down-fine : (s : State) (step : Step) → (view s (owner step)).node ≡ Down → is_some (store_reads s step).tentative ≡ true
    → ((p : NodeId) → step ≡ Learn p → (store_reads s (Learn p)).verdict ≡ Some verdicts.No
    → fits (role_of s.scene p) (view s p).line_len (header_in (store_reads s (Learn p)).stored) ≡ true)
    → Fine (owner_plan s (store_reads s step) step)
down-fine s (Issue p) down some fit = issue-fine (view s p)
down-fine s (Repeat p) down some fit = repeat-fine (view s p)
down-fine s (Deliver p q) down some fit = delivered-down (view s q) (store_reads s (Deliver p q)) p (link s p q) down
down-fine s (Take p) down some fit = take-fine (view s p)
down-fine s (Serve p w place) down some fit = serve-fine (view s p) _ _ _
down-fine s (Check p) down some fit = check-down (view s p) _ _ down
down-fine s (Decide p) down some fit = decide-fine (view s p) _
down-fine s (Abandon p) down some fit = abandon-fine (view s p) _ _
down-fine s (Learn p) down some fit = learn-down (view s p) _ _ _ down (fit p refl)
down-fine s (Fail p) down some fit = fail-down (view s p) _ _ _ down
down-fine s (Restart p) down some fit =
    subst (λ b. Fine (restart (view s p) (store_reads s (Restart p)).stored (store_reads s (Restart p)).next b (store_reads s (Restart p)).undecided
    (store_reads s (Restart p)).verdict)) (sym some)
    (restart-down (view s p) (store_reads s (Restart p)).stored (store_reads s (Restart p)).next (store_reads s (Restart p)).undecided
    (store_reads s (Restart p)).verdict down)

pub down-undamaged : (s : State) (step : Step) → (view s (owner step)).node ≡ Down → is_some (store_reads s step).tentative ≡ true
    → ((p : NodeId) → step ≡ Learn p → (store_reads s (Learn p)).verdict ≡ Some verdicts.No
    → fits (role_of s.scene p) (view s p).line_len (header_in (store_reads s (Learn p)).stored) ≡ true)
    → (refusal : StoreError) → ¬ (unlimited_plan s (store_reads s step) step ≡ Err (refusals.Store refusal))
down-undamaged s step down some fit x e = down-fine s step down some fit (scene-damaged (is_in_scene s.scene step) (owner_plan s (store_reads s step) step) x e)
