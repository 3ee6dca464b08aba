-- What one step more makes of a world that settles.
-- Cited by `settling::settle`.
use Rattle.std.proofs.Common.{◌≡◌, ℕ, ◌+◌, ◌-◌, ◌<◌, length, length-append, take, take_all, arith, Bool, true, false, List, [], ◌∷◌, ◌++◌, Result, Ok, Err}
use Rattle.std.proofs.Common.{if◌then◌else◌, refl, sym, ap, subst, ◌∙◌, ltb-true, ltb-false}
use Rattle.std.specs.Prelude.{Option, Some, slice_get, nat_lt, IfErr, IsErrAnd, IsTrue, OnOk}
use Rattle.std.proofs.lemmas.List.{take-append-le}
use Rattle.std.proofs.lemmas.List.Sums.{fold-append}
use Rattle.kt_history.proofs.Shared.{slice_get-append_left}
use Rattle.kt_store.specs.declared.error.StoreError.{StoreError}
use Rattle.kt_store.specs.Calls.{Counts, raised_by}
use Rattle.kt_state.specs.declared.plan.Plan.{Plan}
use Rattle.kt_tuple.specs.declared.node.NodeId.TheVariants.{Worker}
use Rattle.kt_scenario.specs.declared.step.Step.{Step}
use Rattle.kt_scenario.specs.declared.step.Step.TheVariants.{Issue}
use Rattle.kt_model.specs.declared.error.StepError.{StepError}
use Rattle.kt_model.specs.declared.error.StepError.TheVariants as refusals
use Rattle.kt_model.specs.Effect.{step_result}
use Rattle.kt_model.specs.StepPlan.{step_plan}
use Rattle.kt_scenario.specs.declared.step.TheConstants.{MAX_STEPS}
use Rattle.kt_model.specs.State.{State}
use Rattle.kt_model.proofs.Shared.{plan-few}
use Rattle.kt_scenario.specs.declared.faults.FaultLine.{FaultLine}
use Rattle.kt_scenario.specs.Faults.{spent}
use Rattle.kt_core.specs.Lent.{is_allowed}
use Rattle.kt_core.specs.Store.{IsFault}
use Rattle.kt_core.specs.Stepping.{IsByPlan, IsCause, Refuses, step_counted}
use Rattle.kt_core.specs.World.{WorldModel, beside}
use Rattle.kt_stage.specs.Journal.{all_made}
use Rattle.kt_stage.specs.Policy.{spent_by}
use Rattle.kt_stage.specs.Settling.{AreChosen, IsHeldUp, Settles, next_of_first}
use Rattle.kt_stage.proofs.Halts.{never}
use Rattle.kt_stage.proofs.Making.{replays_more, replays_none}

-- nothing was made so far
pub settles_none : (w : WorldModel) (lines : List FaultLine) → Settles w w lines lines []
settles_none w lines = record {
  made = replays_none w;
  chosen = λ h n s less made. absurd (omega (arith, less));
  spent = refl;
  count = omega (arith);
  scene = refl;
}

-- what is asked of the world, and a step that is refused, change nothing
pub settles_stays : (old between new : WorldModel) (lines left : List FaultLine) (steps : List Step) → Settles old between lines left steps
    → (IsTrue new.is_honest → new.state ≡ between.state) → beside new.state ≡ beside between.state → (IsTrue new.is_honest → IsTrue between.is_honest)
    → Settles old new lines left steps
settles_stays old between new lines left steps s same besides honest = record {
  made = λ h. let m = s.made (honest h) in (m.0, m.1 ∙ ap Ok (sym (same h)));
  chosen = λ h. s.chosen (honest h);
  spent = s.spent;
  count = ap (λ (t : State). t.made) besides ∙ s.count;
  scene = ap (λ (t : State). t.scene) besides ∙ s.scene;
}

last-of : {A : Type 0} (xs : List A) (x : A) → slice_get (xs ++ x ∷ []) (length xs) ≡ Some x
last-of [] x = refl
last-of (y ∷ xs) x = last-of xs x

same-ok : (s t : State) (r : Result State StepError) → r ≡ Ok s → r ≡ Ok t → s ≡ t
same-ok s t r a b = cc

-- the step that was next comes behind the others
chosen-more : (from now : State) (lines : List FaultLine) (steps : List Step) (x : Step) → AreChosen from lines steps → all_made from steps ≡ Ok now
    → next_of_first now (spent_by lines steps) ≡ Some x → AreChosen from lines (steps ++ x ∷ [])
chosen-more from now lines steps x before led next n s less made = by (nat_lt n (length steps)) refl
  where
    by : (b : Bool) → nat_lt n (length steps) ≡ b → next_of_first s (spent_by lines (take n (steps ++ x ∷ []))) ≡ slice_get (steps ++ x ∷ []) n
    by true at =
        let lt = ltb-true n (length steps) at in
        let front : take n (steps ++ x ∷ []) ≡ take n steps = take-append-le n steps (x ∷ []) (omega (arith, lt)) in
        ap (λ (xs : List Step). next_of_first s (spent_by lines xs)) front
        ∙ before n s lt (subst (λ (xs : List Step). all_made from xs ≡ Ok s) front made)
        ∙ sym (slice_get-append_left steps (x ∷ []) n lt)
    by false at =
        let is : n ≡ length steps = omega (arith, length-append steps (x ∷ []), less, ltb-false n (length steps) at) in
        let front : take n (steps ++ x ∷ []) ≡ steps = take-append-le n steps (x ∷ []) (omega (arith, is)) ∙ take_all n steps (omega (arith, is)) in
        let same : s ≡ now = same-ok s now (all_made from steps) (subst (λ (xs : List Step). all_made from xs ≡ Ok s) front made) led in
        ap (λ (xs : List Step). next_of_first s (spent_by lines xs)) front
        ∙ ap (λ (t : State). next_of_first t (spent_by lines steps)) same
        ∙ next
        ∙ sym (ap (slice_get (steps ++ x ∷ [])) is ∙ last-of steps x)

-- the step that is next was made
pub settles_more : (old between new : WorldModel) (lines left now : List FaultLine) (steps : List Step) (x : Step) → Settles old between lines left steps
    → (IsTrue between.is_honest → next_of_first between.state left ≡ Some x)
    → (IsTrue new.is_honest → step_result between.state x ≡ Ok new.state) → (IsTrue new.is_honest → IsTrue between.is_honest)
    → new.state.made ≡ between.state.made + 1 → new.state.scene ≡ between.state.scene → now ≡ spent left x
    → Settles old new lines now (steps ++ x ∷ [])
settles_more old between new lines left now steps x s next result honest one scene is = record {
  made = replays_more old between new steps (steps ++ x ∷ []) x s.made refl honest result;
  chosen = λ h. chosen-more old.state between.state lines steps x (s.chosen (honest h)) (s.made (honest h)).1
      (subst (λ (ls : List FaultLine). next_of_first between.state ls ≡ Some x) s.spent (next (honest h)));
  spent = is ∙ ap (λ (ls : List FaultLine). spent ls x) s.spent ∙ sym (fold-append spent lines steps (x ∷ []));
  count = one ∙ ap (λ (n : ℕ). n + 1) s.count ∙ longer;
  scene = scene ∙ s.scene;
}
  where
    longer : old.state.made + length steps + 1 ≡ old.state.made + length (steps ++ x ∷ [])
    longer = omega (arith, length-append steps (x ∷ []))

-- the world was asked what is next, and this is the answer
pub asked_next : (old new : WorldModel) (lines : List FaultLine) (x y : Option Step) → x ≡ y → (IsTrue new.is_honest → x ≡ next_of_first old.state lines)
    → (IsTrue new.is_honest → new.state ≡ old.state) → IsTrue new.is_honest → next_of_first new.state lines ≡ y
asked_next old new lines x y is said same h = ap (λ (s : State). next_of_first s lines) (same h) ∙ sym (said h) ∙ is

-- ---- why it ends early

-- a step that is allowed and next is refused
pub held_up : (s : State) (lines : List FaultLine) (step : Step) (e : StepError) → next_of_first s lines ≡ Some step → IsTrue (is_allowed s step)
    → Refuses e (step_plan s step) → IsHeldUp s lines e
held_up s lines step (refusals.Store refusal) next allowed due = tt
held_up s lines step refusals.OutOfMemory next allowed due = (refl, record { step = step; next = next; why = due })
held_up s lines step refusals.StepLimit next allowed due = (refl, record { step = step; next = next; why = due })
held_up s lines step refusals.NoNode next allowed due = absurd (never s step refusals.NoNode refl allowed due)
held_up s lines step refusals.WrongMode next allowed due = absurd (never s step refusals.WrongMode refl allowed due)
held_up s lines step refusals.NothingThere next allowed due = absurd (never s step refusals.NothingThere refl allowed due)
held_up s lines step refusals.NoSuchMatch next allowed due = absurd (never s step refusals.NoSuchMatch refl allowed due)
held_up s lines step refusals.NotDecided next allowed due = absurd (never s step refusals.NotDecided refl allowed due)
held_up s lines step refusals.Unresolved next allowed due = absurd (never s step refusals.Unresolved refl allowed due)

-- the step that is next is refused, for the reason that is answered
pub held_at : {T : Type 0} (asked new : WorldModel) (lines : List FaultLine) (step : Step) (out : Result T StepError) (e : StepError)
    → (IsTrue asked.is_honest → next_of_first asked.state lines ≡ Some step) → (IsTrue asked.is_honest → IsTrue (is_allowed asked.state step))
    → (IsTrue new.is_honest → IsTrue asked.is_honest) → (IsTrue new.is_honest → new.state ≡ asked.state)
    → (IsTrue new.is_honest → Refuses e (step_plan asked.state step)) → IsErrAnd out (λ y. y ≡ e)
    → IsTrue new.is_honest → IfErr out (IsHeldUp new.state lines)
held_at asked new lines step (Ok x) e next allowed honest same due is h = tt
held_at asked new lines step (Err y) e next allowed honest same due is h =
    subst (λ (r : StepError). IsHeldUp new.state lines r) (sym is)
    (subst (λ (s : State). IsHeldUp s lines e) (sym (same h)) (held_up asked.state lines step e (next (honest h)) (allowed (honest h)) (due h)))

-- nothing is said of an end that did not come
pub not_over : {T : Type 0} (out : Result T StepError) (Q : StepError → Type 0) (P : Type 0) → IsErrAnd out Q → OnOk out P
not_over (Ok x) Q P is = absurd is
not_over (Err e) Q P is = tt

-- ---- what the store counts

pub asked_counted : {T : Type 0} (out : Result T StepError) (e : StoreError) (old mid new : Counts) → IsErrAnd out (λ y. y ≡ refusals.Store e)
    → new ≡ raised_by e mid → mid ≡ old → new ≡ step_counted out old
asked_counted (Ok x) e old mid new is rose same = absurd is
asked_counted {T = T} (Err y) e old mid new is rose same =
    rose ∙ ap (raised_by e) same ∙ ap (λ (r : StepError). step_counted {T = T} (Err r) old) (sym is)

pub refused_counted : {T : Type 0} (out : Result T StepError) (e : StepError) (old mid new : Counts) → IsErrAnd out (λ y. y ≡ e)
    → new ≡ step_counted {T = T} (Err e) mid → mid ≡ old → new ≡ step_counted out old
refused_counted (Ok x) e old mid new is rose same = absurd is
refused_counted {T = T} (Err y) e old mid new is rose same =
    rose ∙ ap (step_counted {T = T} (Err e)) same ∙ ap (λ (r : StepError). step_counted {T = T} (Err r) old) (sym is)

-- ---- that it ends

-- each step leaves room for fewer
pub fewer_left : (old new : State) (asked : State) (step : Step) → IsByPlan asked step new → new.made ≡ asked.made + 1 → beside asked ≡ beside old
    → MAX_STEPS - new.made < MAX_STEPS - old.made
fewer_left old new asked step by_plan one same =
    let room = plan-few asked by_plan.store_reads step by_plan.plan by_plan.is in
    let was : asked.made ≡ old.made = ap (λ (t : State). t.made) same in
    omega (arith, room, one, was)

-- ---- why it ended early

-- the store was asked, and refused
pub asked-cause : {T : Type 0} (out : Result T StepError) (w : WorldModel) (refusal : StoreError) → IsErrAnd out (λ y. y ≡ refusals.Store refusal)
    → IsFault w.is_honest refusal → IfErr out (λ e. (step : Step) × IsCause w.state step w.is_honest e)
asked-cause (Ok x) w refusal is fault = tt
asked-cause (Err y) w refusal is fault =
    let Caused : StepError → Type 0 = λ e. (step : Step) × IsCause w.state step w.is_honest e in
    let cause : IsCause w.state (Issue (Worker 0)) w.is_honest (refusals.Store refusal) =
    (record { damaged = fault.damaged; full = λ e h. absurd (apart (sym h ∙ fault.full e)) }, λ opened. fault) in
    subst Caused (sym is) (Issue (Worker 0), cause)
  where
    apart : true ≡ false → ⊥
    apart e = cc (e)

-- a step was refused
pub step-cause : {T : Type 0} (out : Result T StepError) (w : WorldModel) (step : Step) (e : StepError) → IsErrAnd out (λ y. y ≡ e)
    → IsCause w.state step w.is_honest e → IfErr out (λ e. (step : Step) × IsCause w.state step w.is_honest e)
step-cause (Ok x) w step e is cause = tt
step-cause (Err y) w step e is cause =
    let Caused : StepError → Type 0 = λ e. (step : Step) × IsCause w.state step w.is_honest e in
    subst Caused (sym is) (step, cause)
