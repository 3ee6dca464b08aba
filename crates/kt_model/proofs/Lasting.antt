-- What holds of every state that steps lead to, and of every step from it.
-- Cited by NeverUnfit, ResumedServices, `laws::checkpoints_hold_the_fronts_of_logs`,
--   `laws::logs_are_cut_by_their_own_node_alone`, `laws::no_step_is_refused_for_damage`,
--   `laws::only_a_failure_makes_the_first_cut`, `laws::services_have_the_cause_of_their_hearing`,
--   `laws::steps_note_one_thing_at_most`, `laws::survivors_are_one_run`,
--   `laws::the_store_of_an_opened_world_is_never_full`, `laws::without_a_cut_nothing_is_lost`,
--   `laws::workers_stand_as_their_answers_say`; other crates.
use Rattle.std.proofs.Common.{◌≡◌, ℕ, length, ◌++◌, ◌<◌, ◌≤◌, Bool, true, false, List, ◌∷◌, Option, None, Some, Result, Ok, Err, inl, inr, refl, sym, ap, ◌∙◌}
use Rattle.std.proofs.Common.{subst, arith}
use Rattle.std.specs.Prelude.{IfSome, IsTrue, is_some}
use Rattle.std.specs.Option.{option_map}
use Rattle.kt_tuple.specs.declared.node.NodeId.{NodeId}
use Rattle.kt_tuple.specs.declared.node.NodeId.TheVariants as ids
use Rattle.kt_tuple.specs.declared.op.Answer.{Answer}
use Rattle.kt_history.specs.declared.note.Act.{Act}
use Rattle.kt_history.specs.declared.note.What.TheVariants.{Served}
use Rattle.kt_history.specs.Log.{log}
use Rattle.kt_history.specs.Closed.{acts_in_log}
use Rattle.kt_history.specs.WellFormed.{HasNoCut}
use Rattle.kt_logs.specs.Hearing.{WasHeardFor}
use Rattle.kt_store.specs.declared.rows.NodeRow.{NodeRow}
use Rattle.kt_store.specs.declared.rows.Verdict.{Verdict}
use Rattle.kt_store.specs.declared.rows.Verdict.TheVariants as verdicts
use Rattle.kt_store.specs.Content.{row_of, verdict_of, verdict_on}
use Rattle.kt_store.specs.Proper.{IsFull, instances, incarnations}
use Rattle.kt_state.specs.declared.plan.Plan.{Plan}
use Rattle.kt_state.specs.Loading.{header_in}
use Rattle.kt_state.specs.Node.{Node}
use Rattle.kt_state.specs.Stored.{fits}
use Rattle.kt_scenario.specs.declared.step.Step.{Step}
use Rattle.kt_scenario.specs.declared.step.Step.TheVariants.{Learn}
use Rattle.kt_model.specs.declared.error.StepError.{StepError}
use Rattle.kt_model.specs.declared.error.StepError.TheVariants as refusals
use Rattle.kt_model.specs.declared.store_reads.StoreReads.{StoreReads}
use Rattle.kt_scenario.specs.Step.{owner}
use Rattle.kt_model.specs.State.{State, role_of, view}
use Rattle.kt_model.specs.StoreReads.{store_reads, to_learn}
use Rattle.kt_model.specs.auxiliary.Backed.{IsBacked}
use Rattle.kt_model.specs.auxiliary.Ready.{IsReady}
use Rattle.kt_model.specs.StepPlan.{IsUndamaged, unlimited_plan, step_plan}
use Rattle.kt_model.specs.Effect.{applied, applied_if, step_result}
use Rattle.kt_model.specs.Reached.{IsReached}
use Rattle.kt_model.specs.Cut.{IsCausallyClosed, permanent_of, permanent_length, acts_held}
use Rattle.kt_model.specs.Found.{has_found}
use Rattle.kt_model.specs.Headline.{may_forget, HasOneRun, IsWhole, NotesOneAtMost, LogAfter, HasCut, IsFailure, IsNoted}
use Rattle.kt_model.specs.Like.{HoldsActs, HoldsFront, IsSettled, StoresFollowLogs}
use Rattle.kt_model.specs.PermanentRun.{IsPermanentRun}
use Rattle.kt_model.specs.Workers.{WorkersFollowLogs}
use Rattle.kt_model.proofs.FirstCut.{shard-alive, failure_cuts_first}
use Rattle.kt_model.proofs.Following.{workers_follow, service_heard}
use Rattle.kt_model.proofs.Headlines.{one_run, nothing_lost, survives_all, bags_held}
use Rattle.kt_model.proofs.HeldActs.{RowHeld, permanent_acts}
use Rattle.kt_model.proofs.Holding.{Holds}
use Rattle.kt_model.proofs.Kept.{Kept, kept-holds, reached-kept, is-quiet}
use Rattle.kt_model.proofs.LogsAfter.{noted_one, log_noted, cut_forgets, shorter_forgets}
use Rattle.kt_model.proofs.PermanentPart.{fronts_in, permanent_front, permanent_run, permanent_within}
use Rattle.kt_model.proofs.PlansFound.{plan-found}
use Rattle.kt_model.proofs.Settle.{settled, row-settled, permanent-settled}
use Rattle.kt_model.proofs.Settling.{unfound-same, unlimited_plan-settled, store_reads-settled, Found, what-found, found-row, follows}
use Rattle.kt_model.proofs.Sound.{MayNote}
use Rattle.kt_model.proofs.StepSound.{step_keeps}
use Rattle.kt_model.proofs.Gives.{gives-fitting}
use Rattle.kt_model.proofs.Undamaged.{never-damaged}
use Rattle.kt_model.proofs.DownUndamaged.{down-undamaged}

pub reached-holds : (s : State) → IsReached s → Holds (settled s)
reached-holds s is = kept-holds s (reached-kept s is)

pub one_run-reached : (s : State) → IsReached s → HasOneRun s
one_run-reached s is =
    let x = one_run (settled s) (reached-kept s is).sound in
    record { well_formed = x.well_formed; tuples = x.tuples; one_run = x.one_run; in_order = x.in_order }

pub workers-reached : (s : State) → IsReached s → WorkersFollowLogs s
workers-reached s is = workers_follow (settled s) (reached-kept s is).sound

pub services-reached : (s : State) → IsReached s → (r : ℕ) (before : List Act) (a : Act) (later : List Act) (answer : Answer)
    → acts_in_log s.history (ids.Shard r) ≡ before ++ a ∷ later → a.what ≡ Served answer → WasHeardFor before a
services-reached s is = service_heard (settled s) (reached-kept s is).sound

-- what is stored fits its node, or it is of a node that is down and asks nothing of it
pub undamaged-reached : (s : State) → IsReached s → IsUndamaged s
undamaged-reached s is step refusal = by (has_found s.found (row_of s.content (owner step)).tentative) refl where
  h : Holds (settled s)
  h = reached-holds s is

  -- a permanent checkpoint beside one that got No
  fit : Found s (owner step) → (p : NodeId) → step ≡ Learn p → (store_reads s (Learn p)).verdict ≡ Some verdicts.No
      → fits (role_of s.scene p) (view s p).line_len (header_in (store_reads s (Learn p)).stored) ≡ true
  fit x p e refused =
      let X : NodeId → Type 0 = λ q. Found s q in
      let y : Found s p = subst X (ap owner e) x in
      let down = (reached-kept s is).downs p (ap (λ o. has_found s.found o) y.is ∙ y.early) in
      let board : verdict_of s.content y.tentative.instance ≡ Some verdicts.No =
      ap (verdict_on s.content) (sym y.is) ∙ sym (ap (λ (n : Node). to_learn s.content p n) down) ∙ refused in
      let same : (row_of (settled s).content p).permanent ≡ (row_of s.content p).permanent =
      ap (λ (row : NodeRow). row.permanent) (found-row s p y)
      ∙ ap (λ (v : Option Verdict). Rattle.kt_model.specs.Cut.permanent_by v (Some y.tentative) (row_of s.content p).permanent) board in
      let F : Option Rattle.kt_ckpt.specs.declared.ckpt.Ckpt.Ckpt → Type 0 =
      λ c. fits (role_of s.scene p) (view s p).line_len (option_map Rattle.kt_ckpt.specs.Header.header_of c) ≡ true in
      subst F same (gives-fitting (settled s) h.ready h.sound h.fitting h.made p).permanent

  by : (b : Bool) → has_found s.found (row_of s.content (owner step)).tentative ≡ b
      → ¬ (unlimited_plan s (store_reads s step) step ≡ Err (refusals.Store refusal))
  by false unfound = λ e.
      let row = row-settled s.found s.content (owner step) ∙ unfound-same s.found s.content (row_of s.content (owner step)) unfound in
      never-damaged (settled s) h.ready h.sound h.fitting h.made step refusal
      (ap (λ (t : StoreReads). unlimited_plan (settled s) t step) (store_reads-settled s step row) ∙ unlimited_plan-settled s (store_reads s step) step ∙ e)
  by true early =
      let x = what-found s (owner step) early in
      down-undamaged s step ((reached-kept s is).downs (owner step) early)
      (ap (λ o. is_some (option_map Rattle.kt_model.specs.StoreReads.header_in o)) x.is) (fit x) refusal

-- a world that was opened has numbers left for all its steps
pub never-full : (s : State) → IsReady s → IsBacked s → s.found ≡ None → (p : NodeId) → ¬ IsFull s.content p
never-full s ready backed new p (instances e) =
    let few = backed.few_instances new in
    let steps = ready.few_steps in
    absurd (omega (arith, e, few, steps))
never-full s ready backed new p (incarnations e) =
    let few = backed.few_incarnations new p in
    let steps = ready.few_steps in
    absurd (omega (arith, e, few, steps))

pub never-full-reached : (s : State) → IsReached s → s.found ≡ None → (p : NodeId) → ¬ IsFull s.content p
never-full-reached s is = let k = reached-kept s is in never-full s k.ready k.backed

-- where a world was opened and there is no cut nobody is down, so all tuples are there
pub whole-reached : (s : State) → IsReached s → s.found ≡ None → HasNoCut s.history → IsWhole s
whole-reached s is new none =
    let k = reached-kept s is in
    let h = reached-holds s is in
    let all = survives_all (settled s) h.sound (nothing_lost s.history none) in
    let held = bags_held (settled s) h.sound k.ready.scene.some_shards all (λ r there. shard-alive s k.ready (k.calm new none) r there) in
    let run = one_run-reached s is in
    record {
      all_stand = nothing_lost s.history none;
      all_survive = λ n act. all n (nothing_lost s.history none n act);
      tuples = Rattle.kt_logs.proofs.Shared.surviving_tuples s.history;
      one_run = Rattle.kt_logs.proofs.Shared.survivors_run (Rattle.kt_model.specs.Asks.setting_of s.scene) s.history
          (Rattle.kt_history.proofs.Shared.CausesComeFirst-from_well_formed s.history h.sound.well_formed) h.sound.legal;
      are_held = held;
    }

-- ---- steps

record IsPlanned (s : State) (step : Step) (new : State) : Type 0 where
  plan : Plan
  planned_so : step_plan s step ≡ Ok plan
  leads : applied s step plan ≡ new

step-step_plan : (s : State) (step : Step) (new : State) → step_result s step ≡ Ok new → IsPlanned s step new
step-step_plan s step new e = by (step_plan s step) refl e
  where
    by : (r : Result Plan StepError) → step_plan s step ≡ r → applied_if s step r ≡ Ok new → IsPlanned s step new
    by (Ok plan) is e = record { plan = plan; planned_so = is; leads = cc (e) }
    by (Err refusal) is e = absurd cc

may-note : (s : State) → Kept s → (step : Step) (plan : Plan) → step_plan s step ≡ Ok plan → MayNote s.scene s.history (owner step) plan.note
may-note s k step plan e = elim (follows s k.backed k.newer k.downs step plan e) [
  | inl f ↦ let h = kept-holds s k in (step_keeps (settled s) h.ready h.backed h.sound step plan f.is_plan).may
  | inr x ↦
      subst (λ p. MayNote s.scene s.history p plan.note) (sym (ap owner x.is_learn))
      (subst (MayNote s.scene s.history x.node) x.same_note (is-quiet s k step plan x).keeps.may)
]

pub made-notes : (s : State) (step : Step) (new : State) → IsReached s → step_result s step ≡ Ok new → NotesOneAtMost (owner step) s.history new.history
made-notes s step new is e =
    let m = step-step_plan s step new e in
    let P : State → Type 0 = λ x. NotesOneAtMost (owner step) s.history x.history in
    subst P m.leads (noted_one s.scene s.history (owner step) m.plan.note (may-note s (reached-kept s is) step m.plan m.planned_so))

pub made-logs : (s : State) (step : Step) (new : State) → IsReached s → step_result s step ≡ Ok new → (q : NodeId) → LogAfter s step new.history q
made-logs s step new is e q =
    let m = step-step_plan s step new e in
    let P : State → Type 0 = λ x. LogAfter s step x.history q in
    subst P m.leads (log_noted s step m.plan.note (may-note s (reached-kept s is) step m.plan m.planned_so)
    (λ r keep f. cut_forgets s (store_reads s step) step m.plan (plan-found s (store_reads s step) step m.plan m.planned_so) (r, keep, f)) q)

pub made-shorter : (s : State) (step : Step) (new : State) → IsReached s → step_result s step ≡ Ok new
    → (q : NodeId) → length (log new.history q) < length (log s.history q) → (owner step ≡ q) × IsTrue (may_forget s step)
made-shorter s step new is e q = shorter_forgets s step new.history q (made-logs s step new is e q)

pub made-first_cut : (s : State) (step : Step) (new : State) → IsReached s → step_result s step ≡ Ok new → s.found ≡ None → HasNoCut s.history
    → HasCut new.history → IsFailure step
made-first_cut s step new is e unfound none has =
    let k = reached-kept s is in
    let m = step-step_plan s step new e in
    failure_cuts_first s k.ready (k.calm unfound none) (store_reads s step) step m.plan (plan-found s (store_reads s step) step m.plan m.planned_so) none
    (subst (λ (x : State). HasCut x.history) (sym m.leads) has)

pub made-noted : (s : State) (step : Step) (new : State) → IsReached s → step_result s step ≡ Ok new → IsNoted s step new
made-noted s step new is e = record {
  one_note = made-notes s step new is e;
  own_log = made-logs s step new is e;
  first_cut = made-first_cut s step new is e;
}

-- ---- what is stored

pub stores-reached : (s : State) → IsReached s → StoresFollowLogs s
stores-reached s is p =
    let k = reached-kept s is in
    let Row : NodeRow → Type 0 = λ r. Rattle.kt_model.proofs.Sound.IsStored s.scene p (acts_in_log s.history p) r.permanent r.tentative
    (verdict_on s.content r.tentative) in
    let stored : IsSettled s p → Row (row_of s.content p) =
    λ e. subst Row (row-settled s.found s.content p ∙ unfound-same s.found s.content (row_of s.content p) e) (k.sound.nodes p).stored in
    let Acts : NodeRow → Type 0 = λ r. RowHeld s.history p r (verdict_on s.content r.tentative) in
    let as_row : Acts (row_of (settled s).content p) = record { permanent = (k.held p).permanent; tentative = (k.held p).tentative } in
    let held : IsSettled s p → Acts (row_of s.content p) =
    λ e. subst Acts (row-settled s.found s.content p ∙ unfound-same s.found s.content (row_of s.content p) e) as_row in
    record {
      counts = subst (HoldsFront s.scene p (acts_in_log s.history p)) (permanent-settled s.found s.content p) (permanent_front (settled s) k.sound p);
      counted_acts = subst (HoldsActs s.history p) (permanent-settled s.found s.content p) (permanent_acts (settled s) p (k.held p));
      permanent = λ e. (stored e).permanent;
      permanent_acts = λ e. (held e).permanent;
      tentative = λ e fine. fronts_in s.scene p (acts_in_log s.history p) (row_of s.content p).permanent (row_of s.content p).tentative
          ((stored e).tentative fine);
      tentative_acts = λ e fine. (held e).tentative fine;
    }

pub within-reached : (s : State) → IsReached s → (p : NodeId) → permanent_length s.content p ≤ length (log s.history p)
within-reached s is p =
    subst (λ n. n ≤ length (log s.history p)) (ap acts_held (permanent-settled s.found s.content p)) (permanent_within (settled s) (reached-kept s is).sound p)

-- IsPermanentRun of what counts as permanent
record IsRunOf (s : State) (of : NodeId → Option Rattle.kt_ckpt.specs.declared.ckpt.Ckpt.Ckpt) : Type 0 where
  tuples : List Rattle.kt_tuple.specs.declared.tuple.Tuple.Tuple
  one_run : Rattle.kt_tuple.specs.Space.IsSpaceRun (Rattle.kt_model.specs.Cut.part s.history (λ p. acts_held (of p))) tuples
  in_order : Rattle.kt_logs.specs.Order.FollowsScripts (Rattle.kt_model.specs.Asks.setting_of s.scene)
      (Rattle.kt_model.specs.Cut.part s.history (λ p. acts_held (of p)))
  are_held : Rattle.std.specs.Prelude.IsPermutation tuples
      (Rattle.std.specs.List.flat_map (λ r. Rattle.kt_model.specs.Cut.tuples_of (of (ids.Shard r))) (Rattle.std.specs.List.range_with_len 1 s.scene.shards))

pub permanent-reached : (s : State) → IsReached s → IsCausallyClosed s.history (permanent_length s.content) → IsPermanentRun s
permanent-reached s is closed =
    let k = reached-kept s is in
    let same : permanent_of (settled s).content ≡ permanent_of s.content = λ i p. permanent-settled s.found s.content p i in
    let Closed : (NodeId → Option Rattle.kt_ckpt.specs.declared.ckpt.Ckpt.Ckpt) → Type 0 = λ of. IsCausallyClosed s.history (λ p. acts_held (of p)) in
    let run = permanent_run (settled s) k.sound k.ready.scene.some_shards (subst Closed (sym same) closed) in
    let Of : (NodeId → Option Rattle.kt_ckpt.specs.declared.ckpt.Ckpt.Ckpt) → Type 0 = λ of. IsRunOf s of in
    let x : IsRunOf s (permanent_of s.content) = subst Of same (record
    { tuples = run.tuples; one_run = run.one_run; in_order = run.in_order; are_held = run.are_held }) in
    record { tuples = x.tuples; one_run = x.one_run; in_order = x.in_order; are_held = x.are_held }
