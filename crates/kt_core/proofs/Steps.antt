-- What the parts of a step come to.
-- Cited by AtOnce, `World::can`, `World::is_allowed`, `World::step`, `resuming::gather`, `stepping::make_by_plan`,
--   `stepping::make`, `stepping::prepare`.
use Rattle.std.proofs.Common.{◌≡◌, ℕ, ◌+◌, ◌<◌, ◌^◌, if◌then◌else◌, Bool, true, false, Result, None, Ok, Err, refl, sym, ap, ◌∙◌, subst, arith}
use Rattle.std.specs.Prelude.{nat_lt, not, IfErr, IfSome, IsOk, IsTrue, OnErr, OnOk}
use Rattle.kt_store.specs.declared.error.StoreError.{StoreError}
use Rattle.kt_store.specs.declared.error.StoreError.TheVariants as stores
use Rattle.kt_store.specs.Content.{Content}
use Rattle.kt_store.specs.Proper.{IsFull}
use Rattle.kt_state.specs.declared.plan.Plan.{Plan}
use Rattle.kt_scenario.specs.declared.step.Step.{Step}
use Rattle.kt_model.specs.declared.error.StepError.{StepError}
use Rattle.kt_model.specs.declared.error.StepError.TheVariants as refusals
use Rattle.kt_model.specs.declared.store_reads.StoreReads.{StoreReads}
use Rattle.kt_model.specs.declared.read_set.ReadSet.{ReadSet}
use Rattle.kt_tuple.specs.declared.node.NodeId.{NodeId}
use Rattle.kt_model.specs.StepPlan.{IsUndamaged, owner_plan, has_room, is_planned, unlimited_plan, of_owner, of_scene, step_plan, step_plan_by, within_limit}
use Rattle.kt_scenario.specs.Scene.{is_in_scene}
use Rattle.kt_state.specs.declared.refusal.Refusal.TheVariants as reasons
use Rattle.kt_state.specs.Plan.{Planned}
use Rattle.kt_model.specs.Effect.{applied, applied_if, step_result}
use Rattle.kt_model.specs.Writing.{content_after}
use Rattle.kt_model.specs.auxiliary.Backed.{IsAllowed, IsBacked}
use Rattle.kt_model.proofs.Shared.{never-full, step_plan-allowed}
use Rattle.kt_core.specs.declared.machine.Machine.{Machine}
use Rattle.kt_core.specs.auxiliary.Machine.{state_of}
use Rattle.kt_model.specs.ReadSet.{read_set_of}
use Rattle.kt_model.specs.auxiliary.Reading.{reads_by}
use Rattle.kt_model.specs.StoreReads.{store_reads}
use Rattle.kt_model.specs.auxiliary.Ready.{CanApply, IsReady}
use Rattle.kt_model.specs.State.{State}
use Rattle.kt_scenario.specs.Step.{owner}
use Rattle.kt_model.proofs.Shared.{enough, plan-found, plan-few, plan-room, can_apply, room-none, stays_ready}
use Rattle.std.specs.Result.{IsErrAnd}
use Rattle.kt_core.specs.auxiliary.Machine as machine
use Rattle.kt_core.specs.Store.{IsFault, IsWriteFault}
use Rattle.kt_core.specs.auxiliary.StepPlans.{IsReadCause, is_refused}
use Rattle.kt_store.specs.Calls.{Counts, raised_by}
use Rattle.kt_core.specs.Stepping.{IsByPlan, IsCalledFor, IsCause, Refuses, Writes, has_write, step_counted}
use Rattle.kt_core.specs.World.{beside}

-- what is asked for is what the rule of the step looks at
pub asked : (s : State) (step : Step) (t : StoreReads) (read_set : ReadSet) (p : NodeId) → t ≡ reads_by read_set s.content p → read_set ≡ read_set_of s step
    → p ≡ owner step
    → t ≡ reads_by (read_set_of s step) s.content (owner step)
asked s step t read_set p is n o = is ∙ ap (λ (x : ReadSet). reads_by x s.content p) n ∙ ap (reads_by (read_set_of s step) s.content) o

-- an owner that is told just what the rule looks at makes the plan that is due
pub owner_plan-step_plan : (s : State) (step : Step) (t : StoreReads) → t ≡ reads_by (read_set_of s step) s.content (owner step)
    → step_plan_by s t step ≡ step_plan s step
owner_plan-step_plan s step t is = ap (λ (x : StoreReads). step_plan_by s x step) is ∙ ap (within_limit (has_room s)) (enough s step)

-- the same where the limit is left aside
pub owner_plan-unlimited_plan : (s : State) (step : Step) (t : StoreReads) → t ≡ reads_by (read_set_of s step) s.content (owner step)
    → unlimited_plan s t step ≡ unlimited_plan s (store_reads s step) step
owner_plan-unlimited_plan s step t is = ap (λ (x : StoreReads). unlimited_plan s x step) is ∙ enough s step

weaker : {Y : Type 0} (e : StepError) (due : Result Y StepError) → machine.Refuses e due → Refuses e due
weaker refusals.OutOfMemory due r = r
weaker (refusals.Store x) due r = tt
weaker refusals.NoNode due r = r
weaker refusals.WrongMode due r = r
weaker refusals.NothingThere due r = r
weaker refusals.NoSuchMatch due r = r
weaker refusals.NotDecided due r = r
weaker refusals.Unresolved due r = r
weaker refusals.StepLimit due r = r

pub refused : (s : State) (step : Step) (t : StoreReads) (e : StepError) → t ≡ reads_by (read_set_of s step) s.content (owner step)
    → machine.Gives {Y = Plan} (Err e) (step_plan_by s t step) → Refuses e (step_plan s step)
refused s step t e is gives = weaker e (step_plan s step) (subst (machine.Refuses e) (owner_plan-step_plan s step t is) gives)

fault-of : (refusal : StoreError) → IsFault false refusal
fault-of refusal = record { damaged = λ e. refl; full = λ e. refl }

limit-store : (room : Bool) (r : Result Plan StepError) (x : StoreError) → within_limit room r ≡ Err (refusals.Store x) → r ≡ Err (refusals.Store x)
limit-store true (Ok plan) x e = e
limit-store false (Ok plan) x e = absurd (cc (e))
limit-store true (Err (refusals.Store y)) x e = e
limit-store false (Err (refusals.Store y)) x e = absurd (cc (e))
limit-store room (Err refusals.NoNode) x e = e
limit-store room (Err refusals.WrongMode) x e = e
limit-store room (Err refusals.NothingThere) x e = e
limit-store room (Err refusals.NoSuchMatch) x e = e
limit-store room (Err refusals.NotDecided) x e = e
limit-store room (Err refusals.Unresolved) x e = e
limit-store room (Err refusals.StepLimit) x e = e
limit-store room (Err refusals.OutOfMemory) x e = e

owner-limit : (r : Planned) → of_owner r ≡ Err refusals.StepLimit → ⊥
owner-limit (Ok plan) e = absurd cc
owner-limit (Err reasons.WrongMode) e = absurd cc
owner-limit (Err reasons.NothingThere) e = absurd cc
owner-limit (Err reasons.NoSuchMatch) e = absurd cc
owner-limit (Err reasons.NotDecided) e = absurd cc
owner-limit (Err reasons.Unresolved) e = absurd cc
owner-limit (Err reasons.Damaged) e = absurd cc
owner-limit (Err reasons.OutOfMemory) e = absurd cc

scene-limit : (there : Bool) (r : Planned) → of_scene there r ≡ Err refusals.StepLimit → ⊥
scene-limit true r e = owner-limit r e
scene-limit false r e = absurd cc

-- the limit is told where there is no room
limit-reached : (room : Bool) (r : Result Plan StepError) → (r ≡ Err refusals.StepLimit → ⊥) → within_limit room r ≡ Err refusals.StepLimit → room ≡ false
limit-reached false r other e = refl
limit-reached true (Ok plan) other e = absurd cc
limit-reached true (Err (refusals.Store y)) other e = absurd cc
limit-reached true (Err refusals.NoNode) other e = absurd cc
limit-reached true (Err refusals.WrongMode) other e = absurd cc
limit-reached true (Err refusals.NothingThere) other e = absurd cc
limit-reached true (Err refusals.NoSuchMatch) other e = absurd cc
limit-reached true (Err refusals.NotDecided) other e = absurd cc
limit-reached true (Err refusals.Unresolved) other e = absurd cc
limit-reached true (Err refusals.StepLimit) other e = absurd (other e)
limit-reached true (Err refusals.OutOfMemory) other e = absurd cc

-- a checkpoint that does not fit is the store's fault: an honest one gives none
pub caused : (honest : Bool) (s b : State) (step : Step) (t : StoreReads) (e : StepError) → IsReady b
    → (IsTrue honest → t ≡ reads_by (read_set_of s step) s.content (owner step))
    → (IsTrue honest → IsUndamaged s) → machine.Gives {Y = Plan} (Err e) (step_plan_by s t step) → machine.Gives {Y = Plan} (Err e) (step_plan_by b t step)
    → IsReadCause b honest e
caused honest s b step t refusals.OutOfMemory ready is fits gives there = tt
caused true s b step t (refusals.Store x) ready is fits gives there =
    absurd (fits refl step x (limit-store (has_room s) (unlimited_plan s (store_reads s step) step) x (sym (owner_plan-step_plan s step t (is refl)) ∙ gives)))
caused false s b step t (refusals.Store x) ready is fits gives there = fault-of x
caused honest s b step t refusals.NoNode ready is fits gives there = tt
caused honest s b step t refusals.WrongMode ready is fits gives there = tt
caused honest s b step t refusals.NothingThere ready is fits gives there = tt
caused honest s b step t refusals.NoSuchMatch ready is fits gives there = tt
caused honest s b step t refusals.NotDecided ready is fits gives there = tt
caused honest s b step t refusals.Unresolved ready is fits gives there = tt
caused honest s b step t refusals.StepLimit ready is fits gives there =
    room-none b ready (limit-reached (has_room b) (unlimited_plan b t step) (scene-limit (is_in_scene b.scene step) (owner_plan b t step)) there)

-- so it is a cause of the step's refusal, whatever the store holds
pub read-caused : (b : State) (c : Content) (step : Step) (honest : Bool) (e : StepError) → IsReadCause b honest e
    → IsCause (record b { content = c }) step honest e
read-caused b c step honest (refusals.Store x) fault =
    (record { damaged = fault.damaged; full = λ e h. absurd (apart (sym h ∙ fault.full e)) }, λ new. fault)
  where
    apart : true ≡ false → ⊥
    apart e = cc (e)
read-caused b c step honest refusals.OutOfMemory fault = tt
read-caused b c step honest refusals.NoNode fault = tt
read-caused b c step honest refusals.WrongMode fault = tt
read-caused b c step honest refusals.NothingThere fault = tt
read-caused b c step honest refusals.NoSuchMatch fault = tt
read-caused b c step honest refusals.NotDecided fault = tt
read-caused b c step honest refusals.Unresolved fault = tt
read-caused b c step honest refusals.StepLimit fault = fault

-- and so is what refuses its write; where a world was opened, no store that is honest is full
pub write-caused : (old new : State) (step : Step) (c : Content) (p : NodeId) (honest : Bool) (x : StoreError) → IsWriteFault honest c p x → p ≡ owner step
    → (IsTrue honest → c ≡ old.content) → (IsTrue honest → new.content ≡ c) → new.found ≡ old.found → IsReady old → (IsTrue honest → IsBacked old)
    → IsCause new step honest (refusals.Store x)
write-caused old new step c p honest x fault owned was stays found ready backed = (
  record { damaged = fault.damaged; full = λ e h. at new.content (owner step) h (sym (stays h)) owned (fault.full e h) },
  λ none. record { damaged = fault.damaged; full = λ e. by honest refl (λ h. opened h none (at old.content p h (was h) refl (fault.full e h))) },
)
  where
    at : (d : Content) (q : NodeId) → IsTrue honest → c ≡ d → p ≡ q → IsFull c p → IsFull d q
    at d q h same own full = subst (λ (r : NodeId). IsFull d r) own (subst (λ (e : Content). IsFull e p) same full)

    opened : IsTrue honest → new.found ≡ None → IsFull old.content p → ⊥
    opened h none full = never-full old ready (backed h) (sym found ∙ none) p full

    by : (b : Bool) → honest ≡ b → (IsTrue honest → ⊥) → honest ≡ false
    by true is wrong = absurd (wrong is)
    by false is wrong = is

owner-damaged : (r : Planned) (x : StoreError) → of_owner r ≡ Err (refusals.Store x) → x ≡ stores.Damaged
owner-damaged (Ok plan) x e = absurd cc
owner-damaged (Err reasons.WrongMode) x e = absurd cc
owner-damaged (Err reasons.NothingThere) x e = absurd cc
owner-damaged (Err reasons.NoSuchMatch) x e = absurd cc
owner-damaged (Err reasons.NotDecided) x e = absurd cc
owner-damaged (Err reasons.Unresolved) x e = absurd cc
owner-damaged (Err reasons.Damaged) x e = cc
owner-damaged (Err reasons.OutOfMemory) x e = absurd cc

scene-damaged : (there : Bool) (r : Planned) (x : StoreError) → of_scene there r ≡ Err (refusals.Store x) → x ≡ stores.Damaged
scene-damaged true r x e = owner-damaged r x e
scene-damaged false r x e = absurd cc

-- of a plan's refusals only that of a checkpoint that does not fit is the store's
pub only-damaged : (s : State) (t : StoreReads) (step : Step) (e : StepError) → machine.Gives {Y = Plan} (Err e) (step_plan_by s t step)
    → (x : StoreError) → e ≡ refusals.Store x → x ≡ stores.Damaged
only-damaged s t step e gives x is =
    let P : StepError → Type 0 = λ y. machine.Refuses y (step_plan_by s t step) in
    let h : step_plan_by s t step ≡ Err (refusals.Store x) = subst P is gives in
    scene-damaged (is_in_scene s.scene step) (owner_plan s t step) x (limit-store (has_room s) (unlimited_plan s t step) x h)

-- so it raises no count of the store
plan-uncounted : (T : Type 0) (e : StepError) (c : Counts) → ((x : StoreError) → e ≡ refusals.Store x → x ≡ stores.Damaged) → c ≡ step_counted {T = T} (Err e) c
plan-uncounted T (refusals.Store x) c only = ap (λ (y : StoreError). raised_by y c) (sym (only x refl))
plan-uncounted T refusals.OutOfMemory c only = refl
plan-uncounted T refusals.NoNode c only = refl
plan-uncounted T refusals.WrongMode c only = refl
plan-uncounted T refusals.NothingThere c only = refl
plan-uncounted T refusals.NoSuchMatch c only = refl
plan-uncounted T refusals.NotDecided c only = refl
plan-uncounted T refusals.Unresolved c only = refl
plan-uncounted T refusals.StepLimit c only = refl

pub plan-counted : {T : Type 0} (r : Result T StepError) (e : StepError) (before now : Counts) → IsErrAnd r (λ x. x ≡ e) → now ≡ before
    → ((x : StoreError) → e ≡ refusals.Store x → x ≡ stores.Damaged) → now ≡ step_counted r before
plan-counted (Ok x) e before now is same only = absurd is
plan-counted {T = T} (Err y) e before now is same only =
    same ∙ plan-uncounted T e before only ∙ ap (λ (z : StepError). step_counted {T = T} (Err z) before) (sym is)

pub is-ok : {X E : Type 0} (r : Result X E) (x : X) → r ≡ Ok x → IsOk r
is-ok {X = X} {E = E} r x e = let P : Result X E → Type 0 = IsOk in subst P (sym e) refl

pub step_plan-can : (s : State) (step : Step) (t : StoreReads) (plan : Plan) → IsReady s → machine.Gives (Ok plan) (step_plan_by s t step)
    → CanApply s (owner step) plan
step_plan-can s step t plan ready gives = can_apply s ready t step plan (plan-found s t step plan gives)

pub step_plan-leads : (s : State) (step : Step) (t : StoreReads) (plan : Plan) → IsReady s → machine.Gives (Ok plan) (step_plan_by s t step)
    → IsReady (applied s step plan)
step_plan-leads s step t plan ready gives = stays_ready s ready (plan-few s t step plan gives) (plan-room s t step plan gives) t step plan
    (plan-found s t step plan gives)

-- what is said of the refusal holds of it where that follows from how it came about
pub on-refusal : {T E : Type 0} (r : Result T E) (P Q : E → Type 0) → IsErrAnd r P → ((e : E) → P e → Q e) → IfErr r Q
on-refusal (Ok x) P Q is f = tt
on-refusal (Err e) P Q is f = f e is

pub on-error : {X E : Type 0} (r : Result X E) (P : Type 0) → P → OnErr r P
on-error (Ok x) P p = tt
on-error (Err e) P p = p

-- readiness does not look at what a store holds
pub ready-beside : (s : State) (c : Content) → IsReady s → IsReady (record s { content = c })
ready-beside s c r = record {
  scene = r.scene;
  scripts = r.scripts;
  rows = r.rows;
  counts = r.counts;
  there = r.there;
  nodes = r.nodes;
  few_steps = r.few_steps;
  few_own = r.few_own;
  few_notes = r.few_notes;
  few_made = r.few_made;
  causes = r.causes;
  messages = r.messages;
}

-- what the plan refuses, it does not refuse for the store
pub called-plan : (s : State) (step : Step) (t : StoreReads) (e : StepError) → t ≡ reads_by (read_set_of s step) s.content (owner step) → IsUndamaged s
    → machine.Gives {Y = Plan} (Err e) (step_plan_by s t step) → IsCalledFor s step e
called-plan s step t (refusals.Store x) is fits gives =
    absurd (fits step x (limit-store (has_room s) (unlimited_plan s (store_reads s step) step) x (sym (owner_plan-step_plan s step t is) ∙ gives)))
called-plan s step t refusals.OutOfMemory is fits gives = tt
called-plan s step t refusals.NoNode is fits gives = tt
called-plan s step t refusals.WrongMode is fits gives = tt
called-plan s step t refusals.NothingThere is fits gives = tt
called-plan s step t refusals.NoSuchMatch is fits gives = tt
called-plan s step t refusals.NotDecided is fits gives = tt
called-plan s step t refusals.Unresolved is fits gives = tt
called-plan s step t refusals.StepLimit is fits gives = tt

-- a write that is refused is one that was planned
pub called-write : (s : State) (step : Step) (plan : Plan) (x : StoreError) → step_plan s step ≡ Ok plan → ¬ (plan.write ≡ None)
    → IsCalledFor s step (refusals.Store x)
called-write s step plan x is writes = has_write (subst Writes (sym is) writes)

-- what was carried out, with the write made before, is what the step is to do
pub effect : (old mid new : Machine) (before between after : Content) (step : Step) (plan : Plan) (p : NodeId) → step_plan (state_of old before) step ≡ Ok plan
    → ((c : Content) → state_of mid c ≡ state_of old c) → between ≡ before → p ≡ owner step → after ≡ content_after p plan.write between
    → ((c : Content) → state_of new (content_after (owner step) plan.write c) ≡ applied (state_of mid c) step plan)
    → step_result (state_of old before) step ≡ Ok (state_of new after)
effect old mid new before between after step plan p is same read owned wrote carried =
    let mid_is : state_of mid between ≡ state_of old before = ap (state_of mid) read ∙ same before in
    let written : after ≡ content_after (owner step) plan.write between = wrote ∙ ap (λ (q : NodeId). content_after q plan.write between) owned in
    let new_is : state_of new after ≡ applied (state_of old before) step plan = ap (state_of new) written ∙ carried between
    ∙ ap (λ (s : State). applied s step plan) mid_is in
    ap (applied_if (state_of old before) step) is ∙ ap (λ (s : State). Ok s) (sym new_is)

-- what a step leads to it leads to by its plan
pub by-result : (old new : State) (step : Step) → step_result old step ≡ Ok new → IsByPlan old step new
by-result old new step e = by (step_plan old step) refl e
  where
    by : (r : Result Plan StepError) → step_plan old step ≡ r → applied_if old step r ≡ Ok new → IsByPlan old step new
    by (Ok plan) is e =
        let same : applied old step plan ≡ new = cc in
        record { store_reads = store_reads old step; plan = plan; is = is; leads = ap beside (sym same) }
    by (Err refusal) is e = absurd cc

-- whatever the store holds
pub step_plan-beside : {X : Type 0} (r : Result X StepError) (old new : Machine) (first before after : Content) (step : Step)
    → OnOk r (IsByPlan (state_of old first) step (state_of new first)) → OnOk r (IsByPlan (state_of old before) step (state_of new after))
step_plan-beside (Ok x) old new first before after step h = record { store_reads = h.store_reads; plan = h.plan; is = h.is; leads = h.leads }
step_plan-beside (Err e) old new first before after step h = tt

-- the write of what is planned is one that the store allows
pub allowed : (s : State) (step : Step) (plan : Plan) (c : Content) (p : NodeId) → IsBacked s → step_plan s step ≡ Ok plan
    → c ≡ s.content → p ≡ owner step → IfSome plan.write (IsAllowed c p)
allowed s step plan c p backed is read owned =
    subst (λ (d : Content). IfSome plan.write (IsAllowed d p)) (sym read)
    (subst (λ (q : NodeId). IfSome plan.write (IsAllowed s.content q)) (sym owned) (step_plan-allowed s backed step plan is))

-- what is not refused is enabled
pub enabled : (r due : Result Plan StepError) → machine.Gives r due → not (is_refused r) ≡ is_planned due
enabled (Ok plan) due gives = ap is_planned (sym gives)
enabled (Err (refusals.Store x)) due gives = ap is_planned (sym gives)
enabled (Err refusals.OutOfMemory) (Ok plan) gives = refl
enabled (Err refusals.OutOfMemory) (Err e) gives = absurd cc
enabled (Err refusals.NoNode) due gives = ap is_planned (sym gives)
enabled (Err refusals.WrongMode) due gives = ap is_planned (sym gives)
enabled (Err refusals.NothingThere) due gives = ap is_planned (sym gives)
enabled (Err refusals.NoSuchMatch) due gives = ap is_planned (sym gives)
enabled (Err refusals.NotDecided) due gives = ap is_planned (sym gives)
enabled (Err refusals.Unresolved) due gives = ap is_planned (sym gives)
enabled (Err refusals.StepLimit) due gives = ap is_planned (sym gives)
