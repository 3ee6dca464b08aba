-- Why a run halts.
-- Cited by Ended, Settled, `LockedJournal::next_before_serving`, `LockedJournal::next_for`, `RunState::left`,
--   `RunState::make`, `RunState::next_by_all`, `RunState::next`.
use Rattle.std.proofs.Common.{◌≡◌, ◌+◌, ◌≤◌, ℕ, Bool, true, false, if◌then◌else◌, Result, Ok, Err, Option, None, Some, refl, sym, ap, subst, ◌∙◌, arith}
use Rattle.std.proofs.Common.{eq-eqb, lt-ltb, ltb-true}
use Rattle.std.specs.List.{find, list_any}
use Rattle.std.specs.Prelude.{◌==◌, List, [], ◌∷◌, cond, is_some, nat_lt, not, ◌&&◌, ◌||◌, IsTrue, IfErr, IfOk, IfSome}
use Rattle.kt_tuple.specs.declared.node.NodeId.{NodeId}
use Rattle.kt_store.specs.declared.error.StoreError.{StoreError}
use Rattle.kt_store.specs.declared.error.StoreError.TheVariants as stores
use Rattle.kt_tuple.specs.Node.{node_eq}
use Rattle.kt_store.specs.declared.rows.NodeRow.{NodeRow}
use Rattle.kt_store.specs.Content.{Content, greatest, next_instance, row_or}
use Rattle.kt_store.specs.Proper.{IsFull, instances, incarnations}
use Rattle.kt_store.specs.Calls.{Counts, counted, most, raised, raised_by}
use Rattle.kt_state.specs.declared.plan.Plan.{Plan}
use Rattle.kt_scenario.specs.declared.step.Step.{Step}
use Rattle.kt_model.specs.declared.error.StepError.{StepError}
use Rattle.kt_model.specs.declared.error.StepError.TheVariants as refusals
use Rattle.kt_model.specs.StepPlan.{has_room, is_planned, unlimited_plan, step_plan, within_limit}
use Rattle.kt_model.specs.State.{State}
use Rattle.kt_scenario.specs.Step.{owner}
use Rattle.kt_model.specs.StoreReads.{store_reads}
use Rattle.kt_core.specs.Lent.{is_allowed}
use Rattle.kt_core.specs.World.{WorldModel}
use Rattle.kt_core.specs.Store.{AreLater, IsFault, IsWriteFault}
use Rattle.kt_stage.specs.declared.error.ActError.TheVariants as errors
use Rattle.kt_stage.specs.Acting.{IsActed}
use Rattle.kt_stage.specs.Journal.{Journal}
use Rattle.kt_stage.specs.Running.{IsRefusedAt, has_risen, is_fault_since, is_full, is_run_cause}
use Rattle.kt_stage.specs.Settling.{is_any_steps}
use Rattle.kt_stage.specs.auxiliary.Halting.{IsGiven}

-- ---- a step that is allowed is refused by the limit, by the store, or for want of memory

step_plan-any : (room : Bool) (r : Result Plan StepError) (e : StepError) → is_planned r ≡ true → within_limit room r ≡ Err e → is_any_steps e ≡ true
step_plan-any true (Ok plan) e is same = absurd cc
step_plan-any false (Ok plan) e is same = ap is_any_steps (let here : e ≡ refusals.StepLimit = cc in here)
step_plan-any true (Err (refusals.Store x)) e is same = ap is_any_steps (let here : e ≡ refusals.Store x = cc in here)
step_plan-any false (Err (refusals.Store x)) e is same = ap is_any_steps (let here : e ≡ refusals.StepLimit = cc in here)
step_plan-any room (Err refusals.NoNode) e is same = absurd cc
step_plan-any room (Err refusals.WrongMode) e is same = absurd cc
step_plan-any room (Err refusals.NothingThere) e is same = absurd cc
step_plan-any room (Err refusals.NoSuchMatch) e is same = absurd cc
step_plan-any room (Err refusals.NotDecided) e is same = absurd cc
step_plan-any room (Err refusals.Unresolved) e is same = absurd cc
step_plan-any room (Err refusals.StepLimit) e is same = absurd cc
step_plan-any room (Err refusals.OutOfMemory) e is same = absurd cc

-- no other refusal comes while the store is honest
pub never : (s : State) (step : Step) (e : StepError) → is_any_steps e ≡ false → IsTrue (is_allowed s step) → step_plan s step ≡ Err e → ⊥
never s step e other allowed due =
    let any : is_any_steps e ≡ true = step_plan-any (has_room s) (unlimited_plan s (store_reads s step) step) e allowed due in
    let off : false ≡ true = sym other ∙ any in
    absurd cc

-- ---- a refusal of the store

right-holds : (a b : Bool) → b ≡ true → (a || b) ≡ true
right-holds true b e = refl
right-holds false b e = e

left-holds : (a b : Bool) → a ≡ true → (a || b) ≡ true
left-holds true b e = refl
left-holds false b e = absurd cc

-- a count that was raised has risen
risen : (before n : ℕ) → before ≤ n → has_risen before (raised n) ≡ true
risen before n le = by (n == most) refl
  where
    by : (b : Bool) → (n == most) ≡ b → has_risen before (if b then n else n + 1) ≡ true
    by true at = right-holds (nat_lt before n) _ at
    by false at = left-holds (nat_lt before (n + 1)) _ (lt-ltb before (n + 1) (omega (arith, le)))

risen-older : (older old now : ℕ) → older ≤ old → has_risen old now ≡ true → has_risen older now ≡ true
risen-older older old now le is = by (nat_lt old now) refl is
  where
    by : (b : Bool) → nat_lt old now ≡ b → (b || (now == most)) ≡ true → has_risen older now ≡ true
    by true at e =
        let lt = ltb-true old now at in
        left-holds (nat_lt older now) _ (lt-ltb older now (omega (arith, le, lt)))
    by false at e = right-holds (nat_lt older now) _ e

pub fault-since : (before old : Counts) (w : WorldModel) (e : StoreError) → AreLater before old → w.counts ≡ raised_by e old → IsFault w.is_honest e
    → is_fault_since before w e ≡ true
fault-since before old w stores.Device le is f =
    ap (λ (c : Counts). has_risen before.faults c.faults) is ∙ risen before.faults old.faults le.faults
fault-since before old w stores.Memory le is f =
    ap (λ (c : Counts). has_risen before.wants c.wants) is ∙ risen before.wants old.wants le.wants
fault-since before old w stores.Damaged le is f = ap not (f.damaged refl)
fault-since before old w stores.Full le is f = left-holds (not w.is_honest) _ (ap not (f.full refl))

-- a store that is full shows it
held-full : (p : NodeId) (rows : List NodeRow) → (row_or p (find (λ (row : NodeRow). node_eq row.node p) rows)).incarnation ≡ greatest
    → list_any (λ (row : NodeRow). row.incarnation == greatest) rows ≡ true
held-full p [] e = absurd (omega (arith, e))
held-full p (x ∷ rows) e = by (node_eq x.node p) (x.incarnation == greatest) refl e (held-full p rows)
  where
    by : (b c : Bool) → (x.incarnation == greatest) ≡ c → (row_or p (cond b (Some x) (find (λ (row : NodeRow). node_eq row.node p) rows))).incarnation
        ≡ greatest
        → ((row_or p (find (λ (row : NodeRow). node_eq row.node p) rows)).incarnation ≡ greatest
        → list_any (λ (row : NodeRow). row.incarnation == greatest) rows ≡ true)
        → (c || list_any (λ (row : NodeRow). row.incarnation == greatest) rows) ≡ true
    by b true is e later = refl
    by true false is e later = absurd (apart (sym (eq-eqb x.incarnation greatest e) ∙ is))
      where
        apart : true ≡ false → ⊥
        apart f = cc (f)
    by false false is e later = later e

shows-full : (c : Content) (p : NodeId) → IsFull c p → is_full c ≡ true
shows-full c p (instances e) = left-holds _ _ (eq-eqb (next_instance c) (greatest + 1) e)
shows-full c p (incarnations e) = right-holds _ _ (held-full p c.nodes e)

-- the refusal of a write, by a store that is full only where it is, and never in a world that was opened
write-since : (before old : Counts) (w : WorldModel) (p : NodeId) (e : StoreError) → AreLater before old → w.counts ≡ raised_by e old
    → IsWriteFault w.is_honest w.state.content p e → (w.state.found ≡ None → IsFault w.is_honest e) → is_fault_since before w e ≡ true
write-since before old w p stores.Device le is f opened =
    ap (λ (c : Counts). has_risen before.faults c.faults) is ∙ risen before.faults old.faults le.faults
write-since before old w p stores.Memory le is f opened =
    ap (λ (c : Counts). has_risen before.wants c.wants) is ∙ risen before.wants old.wants le.wants
write-since before old w p stores.Damaged le is f opened = ap not (f.damaged refl)
write-since before old w p stores.Full le is f opened = by w.is_honest refl w.state.found refl
  where
    both : (a b : Bool) → a ≡ true → b ≡ true → (a && b) ≡ true
    both a b x y = rw (x, y) refl

    by : (b : Bool) → w.is_honest ≡ b → (found : Option ℕ) → w.state.found ≡ found
        → (not w.is_honest || (is_some w.state.found && is_full w.state.content)) ≡ true
    by false e found is = left-holds _ _ (ap not e)
    by true e None is = left-holds _ _ (ap not ((opened is).full refl))
    by true e (Some last) is = right-holds _ _ (both _ _ (ap is_some is) (shows-full w.state.content p (f.full refl e)))

fault-older : (older old : Counts) (w : WorldModel) (e : StoreError) → AreLater older old → is_fault_since old w e ≡ true → is_fault_since older w e ≡ true
fault-older older old w stores.Device le is = risen-older older.faults old.faults w.counts.faults le.faults is
fault-older older old w stores.Memory le is = risen-older older.wants old.wants w.counts.wants le.wants is
fault-older older old w stores.Damaged le is = is
fault-older older old w stores.Full le is = is

-- a store that is asked, and refuses
pub asked-since : {A : Type 0} (before old : Counts) (w : WorldModel) (r : Result A StoreError) → AreLater before old → w.counts ≡ counted r old
    → IfErr r (IsFault w.is_honest) → IfErr r (λ e. is_fault_since before w e ≡ true)
asked-since before old w (Ok x) le is f = tt
asked-since before old w (Err e) le is f = fault-since before old w e le is f

-- ---- a step that the policy gives

unless-honest : (b more : Bool) → (b ≡ true → more ≡ true) → (not b || more) ≡ true
unless-honest true more f = f refl
unless-honest false more f = refl

never-honest : (b : Bool) → (b ≡ true → ⊥) → not b ≡ true
never-honest true f = absurd (f refl)
never-honest false f = refl

pub given-cause : (before : Counts) (old new : Journal) (p : NodeId) (step : Step) (e : StepError) → AreLater before old.world.counts → IsGiven old.world p step
    → IsActed old new p step (Err (errors.Step e)) → is_run_cause before new.world e ≡ true
given-cause before old new p step refusals.StepLimit later given acted = unless-honest new.world.is_honest _ (λ h. acted.cause)
given-cause before old new p step (refusals.Store refusal) later given acted =
    write-since before old.world.counts new.world (owner step) refusal later acted.counts acted.cause.0 acted.cause.1
given-cause before old new p step refusals.OutOfMemory later given acted = refl
given-cause before old new p step refusals.NoNode later given acted = never-honest new.world.is_honest (λ h.
    never old.world.state step refusals.NoNode refl (given (acted.honest h)).1 (acted.refusal h))
given-cause before old new p step refusals.WrongMode later given acted = never-honest new.world.is_honest (λ h.
    never old.world.state step refusals.WrongMode refl (given (acted.honest h)).1 (acted.refusal h))
given-cause before old new p step refusals.NothingThere later given acted = never-honest new.world.is_honest (λ h.
    never old.world.state step refusals.NothingThere refl (given (acted.honest h)).1 (acted.refusal h))
given-cause before old new p step refusals.NoSuchMatch later given acted = never-honest new.world.is_honest (λ h.
    never old.world.state step refusals.NoSuchMatch refl (given (acted.honest h)).1 (acted.refusal h))
given-cause before old new p step refusals.NotDecided later given acted = never-honest new.world.is_honest (λ h.
    never old.world.state step refusals.NotDecided refl (given (acted.honest h)).1 (acted.refusal h))
given-cause before old new p step refusals.Unresolved later given acted = never-honest new.world.is_honest (λ h.
    never old.world.state step refusals.Unresolved refl (given (acted.honest h)).1 (acted.refusal h))

-- the store said what had to be known, or its refusal ends the run
pub given-from : (old new : WorldModel) (p : NodeId) (r : Result (Option Step) StoreError)
    → (IsTrue new.is_honest → IfOk r (λ x. IfSome x (λ step. owner step ≡ p)))
    → (IsTrue new.is_honest → IfOk r (λ x. IfSome x (λ step. IsTrue (is_allowed old.state step)))) → (IsTrue new.is_honest → new.state ≡ old.state)
    → IfOk r (λ x. IfSome x (IsGiven new p))
given-from old new p (Ok None) own allowed same = tt
given-from old new p (Ok (Some step)) own allowed same = λ h.
    (own h, subst (λ (s : State). IsTrue (is_allowed s step)) (sym (same h)) (allowed h))
given-from old new p (Err e) own allowed same = tt

-- ---- the counts at an earlier time

cause-since : (older old : Counts) (w : WorldModel) (e : StepError) → AreLater older old → is_run_cause old w e ≡ true → is_run_cause older w e ≡ true
cause-since older old w (refusals.Store refusal) le is = fault-older older old w refusal le is
cause-since older old w refusals.OutOfMemory le is = refl
cause-since older old w refusals.StepLimit le is = is
cause-since older old w refusals.NoNode le is = is
cause-since older old w refusals.WrongMode le is = is
cause-since older old w refusals.NothingThere le is = is
cause-since older old w refusals.NoSuchMatch le is = is
cause-since older old w refusals.NotDecided le is = is
cause-since older old w refusals.Unresolved le is = is

pub refused-since : (older old : Counts) (j : Journal) (at : ℕ) (e : StepError) → AreLater older old → IsRefusedAt old j at e → IsRefusedAt older j at e
refused-since older old j at e le is = (is.0, cause-since older old j.world e le is.1)
