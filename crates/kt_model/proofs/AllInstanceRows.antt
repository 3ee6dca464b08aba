-- The instance of each tentative checkpoint that is stored is on the board.
-- Cited by NeverUnfit.
use Rattle.std.proofs.Common.{◌≡◌, ℕ, ◌+◌, Bool, true, false, List, [], ◌∷◌, Option, None, Some, inl, inr, refl, sym, ap, ◌∙◌, subst}
use Rattle.std.specs.Prelude.{IfSome, is_some, IsTrue, Result, Ok, Err}
use Rattle.std.specs.Option.{option_map}
use Rattle.std.proofs.lemmas.Bool.{cases_eq}
use Rattle.kt_tuple.specs.declared.node.NodeId.{NodeId}
use Rattle.kt_tuple.specs.Node.{node_index}
use Rattle.kt_tuple.proofs.Shared.{node_index-injective}
use Rattle.kt_store.specs.declared.rows.NodeRow.{NodeRow}
use Rattle.kt_store.specs.declared.rows.Tentative.{Tentative}
use Rattle.kt_store.specs.declared.rows.InstanceRow.{InstanceRow}
use Rattle.kt_store.specs.declared.rows.Purpose.TheVariants as purposes
use Rattle.kt_store.specs.declared.rows.Verdict.{Verdict}
use Rattle.kt_store.specs.declared.rows.Verdict.TheVariants as verdicts
use Rattle.kt_store.specs.Changes.{storing, taken, opening as opening_of}
use Rattle.kt_store.specs.Content.{Content, next_instance, instance_row, row_of, verdict_of}
use Rattle.kt_store.proofs.Shared.{begun_is_read}
use Rattle.kt_vote.specs.Poll.{Poll}
use Rattle.kt_state.specs.declared.change.KeptChange.{KeptChange}
use Rattle.kt_state.specs.declared.change.KeptChange.TheVariants as keeps
use Rattle.kt_state.specs.declared.live.Phase.{Phase}
use Rattle.kt_state.specs.declared.live.Phase.TheVariants as phases
use Rattle.kt_state.specs.declared.message.Message.{Message}
use Rattle.kt_state.specs.declared.message.Message.TheVariants as messages
use Rattle.kt_state.specs.declared.message.AppMessage.{AppMessage}
use Rattle.kt_state.specs.declared.plan.Plan.{Plan}
use Rattle.kt_state.specs.declared.plan.Write.{Write}
use Rattle.kt_state.specs.declared.plan.Write.TheVariants as writes
use Rattle.kt_node.specs.Deciding.{decide_plan}
use Rattle.kt_node.specs.Learning.{held_learns}
use Rattle.kt_state.specs.Node.{Live}
use Rattle.kt_scenario.specs.declared.step.Step.{Step}
use Rattle.kt_scenario.specs.declared.step.Step.TheVariants.{Deliver}
use Rattle.kt_scenario.specs.Scene.{SceneModel, IsScene}
use Rattle.kt_model.specs.declared.error.StepError.{StepError}
use Rattle.kt_model.specs.Effect.{applied, applied_if}
use Rattle.kt_model.specs.StepPlan.{step_plan}
use Rattle.kt_model.specs.Reached.{IsReached, IsStart, opening, opened, resumes, after, next_state, or_as_it_was}
use Rattle.kt_model.specs.Resumed.{resumed, AllFit}
use Rattle.kt_model.specs.State.{State, view}
use Rattle.kt_scenario.specs.Step.{owner}
use Rattle.kt_model.specs.StoreReads.{store_reads, of_first, verdict_for}
use Rattle.kt_model.specs.Writing.{content_after}
use Rattle.kt_model.proofs.Backs.{undecided-open}
use Rattle.kt_model.proofs.Heards as ways
use Rattle.kt_model.proofs.Heards.{HeardOf, heard-is}
use Rattle.kt_model.proofs.Newer.{instance_row-after}
use Rattle.kt_model.proofs.Plans as plans
use Rattle.kt_model.proofs.Plans.{Comes, PlanOf}
use Rattle.kt_model.proofs.PlansFound.{plan-found}
use Rattle.kt_model.proofs.Writes.{row_after, own-row, other-rows}

abbrev pub IsOnBoard : Content → ℕ → Type 0
IsOnBoard c i = IsTrue (is_some (instance_row c i))

-- what is tentative is of an instance on the board
abbrev pub IsOfInstanceRow : Content → Option Tentative → Type 0
IsOfInstanceRow c stored = IfSome stored (λ t. IsOnBoard c t.instance)

abbrev pub AreOfInstanceRows : Content → Type 0
AreOfInstanceRows c = (p : NodeId) → IsOfInstanceRow c (row_of c p).tentative

-- what is written as tentative is
abbrev MayPut : Content → Option Write → Type 0
MayPut c (Some (writes.PutTentative instance checkpoint)) = IsOnBoard c instance
MayPut c write = Unit {0}

-- ---- a write

still : (p : NodeId) (write : Option Write) (c : Content) (o : Option Tentative) → IsOfInstanceRow c o → IsOfInstanceRow (content_after p write c) o
still p write c None is = tt
still p write c (Some t) is = instance_row-after p write c t.instance is

begun : (p : NodeId) (c : Content) (row : NodeRow)
    → IsOnBoard (opening_of p purposes.Check (storing row c)) (next_instance c)
begun p c row = subst (λ (o : Option InstanceRow). IsTrue (is_some o)) (sym (begun_is_read p purposes.Check (storing row c))) refl

own-after : (p : NodeId) (write : Option Write) (c : Content) → MayPut c write → AreOfInstanceRows c
    → IsOfInstanceRow (content_after p write c) (row_after c (row_of c p) write).tentative
own-after p None c may all = all p
own-after p (Some (writes.BeginCheck checkpoint)) c may all = begun p c (record (row_of c p) { tentative = taken (next_instance c) checkpoint })
own-after p (Some (writes.PutTentative instance checkpoint)) c may all = instance_row-after p (Some (writes.PutTentative instance checkpoint)) c instance may
own-after p (Some writes.Promote) c may all = tt
own-after p (Some writes.Discard) c may all = tt
own-after p (Some writes.BeginRestart) c may all = still p (Some writes.BeginRestart) c (row_of c p).tentative (all p)
own-after p (Some writes.Bump) c may all = still p (Some writes.Bump) c (row_of c p).tentative (all p)
own-after p (Some (writes.Decide instance agreed)) c may all = still p (Some (writes.Decide instance agreed)) c (row_of c p).tentative (all p)

all-after : (p : NodeId) (write : Option Write) (c : Content) → MayPut c write → AreOfInstanceRows c → AreOfInstanceRows (content_after p write c)
all-after p write c may all q = elim (cases_eq (node_index p) (node_index q)) [
  | inl e ↦
      let same : p ≡ q = node_index-injective p q e in
      subst (λ r. IsOfInstanceRow (content_after p write c) (row_of (content_after p write c) r).tentative) same
      (subst (λ (row : NodeRow). IsOfInstanceRow (content_after p write c) row.tentative) (sym (own-row p write c))
      (own-after p write c may all))
  | inr d ↦
      subst (λ (row : NodeRow). IsOfInstanceRow (content_after p write c) row.tentative)
      (sym (other-rows p write c q (λ e. d (ap node_index (sym e))))) (still p write c (row_of c q).tentative (all q))
]

-- ---- the plans

heard-may : (c : Content) (s : State) (p from : NodeId) (n : Live) (kept : KeptChange) (app : AppMessage) (plan : Plan)
    → HeardOf (view s p) n kept from app plan
    → MayPut c plan.write
heard-may c s p from n kept app plan (ways.misses_request body talk) = tt
heard-may c s p from n kept app plan (ways.accepts body talk awaited) = tt
heard-may c s p from n kept app plan (ways.ignores_reply body talk other) = tt
heard-may c s p from n kept app plan (ways.hears body talk new) = tt
heard-may c s p from n kept app plan (ways.answers_again body talk old has) = tt
heard-may c s p from n kept app plan (ways.ignores_request body talk old none) = tt
heard-may c s p from n kept app plan (ways.misses_reply body talk) = tt

decide-may : (c : Content) (x : Phase) (b : Poll) (agreed : Bool) → MayPut c (decide_plan x b agreed).write
decide-may c (phases.Rolling d) b true = tt
decide-may c (phases.Rolling d) b false = tt
decide-may c (phases.Held d) b agreed = tt
decide-may c phases.Up b agreed = tt

learns-may : (c : Content) (agreed : Bool) (send : List (NodeId × Message)) → MayPut c (held_learns agreed send).write
learns-may c true send = tt
learns-may c false send = tt

-- an instance with a verdict is on the board
has-row : (c : Content) (i : ℕ) (v : Verdict) → verdict_of c i ≡ Some v → IsOnBoard c i
has-row c i v e = by (instance_row c i) e
  where
    by : (o : Option InstanceRow) → option_map (λ (row : InstanceRow). row.verdict) o ≡ Some v → IsTrue (is_some o)
    by None none = absurd (cc (none))
    by (Some row) some = refl

plan-may : (s : State) (step : Step) (plan : Plan) → PlanOf s (store_reads s step) step plan → MayPut s.content plan.write
plan-may s step plan (plans.issues there at up body kept next) = tt
plan-may s step plan (plans.repeats there at up body again) = tt
plan-may s step plan (plans.serves there other at up body gives) = tt
plan-may s step plan (plans.takes {p = p} {from = from} {n = n} {app = app} there at up kept) =
    heard-may s.content s p from n keeps.TakeFirst app plan (heard-is (view s p) n keeps.TakeFirst from app)
plan-may s step plan (plans.hears {p = p} {q = q} {n = n} {app = app} comes at up kept) =
    heard-may s.content s q p n keeps.Stay app plan (heard-is (view s q) n keeps.Stay p app)
plan-may s step plan (plans.puts_by comes at rolls) = tt
plan-may s step plan (plans.drops comes may) = tt
plan-may s step plan (plans.answers_check comes at says) = tt
plan-may s step plan (plans.joins_check {p = p} {q = q} {ask = ask} comes at up undecided joins fit other shaped) =
    let first : verdict_for s (Deliver p q) ≡ verdict_of s.content ask.instance = ap (of_first s.content) comes.on in
    has-row s.content ask.instance verdicts.Open
    (sym first ∙ undecided-open (verdict_for s (Deliver p q)) undecided)
plan-may s step plan (plans.answers_rollback comes at says) = tt
plan-may s step plan (plans.joins_rollback comes at up undecided above fit) = tt
plan-may s step plan (plans.counts_vote comes at voting on) = tt
plan-may s step plan (plans.told_when_held {agreed = agreed} comes at held same) = learns-may s.content agreed _
plan-may s step plan (plans.told_to_roll comes at rolls asked same loads) = tt
plan-may s step plan (plans.told_to_go_on comes at rolls asked same) = tt
plan-may s step plan (plans.begins_check there at up fit shaped) = tt
plan-may s step plan (plans.decides {n = n} {b = b} {agreed = agreed} there at voting own undecided outcome) = decide-may s.content n.phase b agreed
plan-may s step plan (plans.gives_up there at voting own undecided) = tt
plan-may s step plan (plans.gives_up_down there down has) = tt
plan-may s step plan (plans.declines there at voting asked has) = tt
plan-may s step plan (plans.learns_when_held {agreed = agreed} there at held knows) = learns-may s.content agreed []
plan-may s step plan (plans.learns_to_roll there at rolls asked knows loads) = tt
plan-may s step plan (plans.learns_to_go_on there at rolls asked knows) = tt
plan-may s step plan (plans.learns_yes_down there down has knows) = tt
plan-may s step plan (plans.learns_no_down there down has knows fit) = tt
plan-may s step plan (plans.fails there at fit other) = tt
plan-may s step plan (plans.restarts there down has free loads) = tt
plan-may s step plan (plans.restarts_anew there at rolls own refused loads) = tt

-- ---- the induction

step_plan-instance_row : (s : State) → AreOfInstanceRows s.content → (step : Step) (plan : Plan) → PlanOf s (store_reads s step) step plan
    → AreOfInstanceRows (applied s step plan).content
step_plan-instance_row s all step plan of = all-after (owner step) plan.write s.content (plan-may s step plan of) all

result-instance_row : (s : State) (step : Step) (r : Result Plan StepError) → AreOfInstanceRows s.content
    → step_plan s step ≡ r → AreOfInstanceRows (or_as_it_was (applied_if s step r) s).content
result-instance_row s step (Ok plan) all e =
    step_plan-instance_row s all step plan (plan-found s (store_reads s step) step plan e)
result-instance_row s step (Err refusal) all e = all

steps-instance_row : (s : State) (steps : List Step) → AreOfInstanceRows s.content → AreOfInstanceRows (after s steps).content
unfolding after
steps-instance_row s [] all = all
steps-instance_row s (step ∷ later) all =
    steps-instance_row (next_state s step) later (result-instance_row s step (step_plan s step) all refl)

start-instance_row : (s : State) → IsStart s → AreOfInstanceRows s.content
start-instance_row s (opened scene is short) = λ p. tt
start-instance_row s (resumes scene c is short proper fit) = fit.instance_row

pub reached-instance_row : (s : State) → IsReached s → AreOfInstanceRows s.content
reached-instance_row s is = subst (λ (r : State). AreOfInstanceRows r.content) is.leads
    (steps-instance_row is.start is.steps (start-instance_row is.start is.is_start))
