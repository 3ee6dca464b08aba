-- What a run has come to.
-- Cited by `running::run_threads_returning_left`.
use Rattle.std.proofs.Common.{◌≡◌, List, Ok, None, Some, IsTrue, refl, sym, subst, ap, ◌∙◌}
use Rattle.kt_scenario.specs.declared.step.Step.{Step}
use Rattle.kt_scenario.specs.Scene.{SceneModel}
use Rattle.kt_model.specs.State.{State}
use Rattle.kt_scenario.specs.declared.faults.FaultLine.{FaultLine}
use Rattle.kt_core.specs.Store.{AreLater, StoreValue}
use Rattle.kt_core.specs.Starting.{Begins, IsErrorOf, IsUnbegun}
use Rattle.kt_core.specs.World.{WorldModel, store_of}
use Rattle.kt_core.specs.declared.start.Start.{Start}
use Rattle.kt_core.specs.declared.start.StartError.{StartError}
use Rattle.kt_core.specs.declared.start.StartError.TheVariants as unbegun
use Rattle.kt_store.specs.Content.{Content}
use Rattle.kt_tuple.specs.declared.node.NodeId.{NodeId}
use Rattle.kt_stage.specs.declared.running.RunFault.{RunFault}
use Rattle.kt_stage.specs.declared.running.RunFault.TheVariants as runs
use Rattle.kt_stage.specs.Journal.{Journal, Replays, all_made}
use Rattle.kt_stage.specs.Policy.{first_unfinished, spent_by}
use Rattle.kt_stage.specs.Running.{IsLeftJournal, IsStopped, IsUnbegunFault, Leads}
use Rattle.kt_stage.proofs.Halts.{refused-since}
use Rattle.kt_stage.specs.auxiliary.Halting.{IsHalted}
use Rattle.kt_stage.specs.auxiliary.Unbegun.{fault_of}

-- the steps lead from the start of the scene's world to the world, which was then looked at
pub made-from-start : (start : Start) (c : Content) (scene : SceneModel) (first old new : WorldModel) (steps same : List Step)
    → (IsTrue first.is_honest → Begins start c scene first.state)
    → Replays first old steps → same ≡ steps → (IsTrue new.is_honest → IsTrue old.is_honest) → (IsTrue new.is_honest → new.state ≡ old.state)
    → IsTrue new.is_honest → Leads start c scene same new.state
made-from-start start c scene first old new steps same begins replays is honest stays h =
    let r = replays (honest h) in
    record { first = first.state; begins = begins r.0; made = ap (all_made first.state) is ∙ r.1 ∙ ap Ok (sym (stays h)) }

-- no node had a next step
pub still-finished : (old new : WorldModel) (lines : List FaultLine) (steps same : List Step) → None ≡ first_unfinished old.state (spent_by lines steps)
    → same ≡ steps
    → new.state ≡ old.state → first_unfinished new.state (spent_by lines same) ≡ None
still-finished old new lines steps same none is stays =
    ap (λ (s : State). first_unfinished s (spent_by lines same)) stays ∙ ap (λ (xs : List Step). first_unfinished old.state (spent_by lines xs)) is ∙ sym none

-- the node that has a next step is the first one in the state that was looked at
pub still-left : (old new : WorldModel) (lines : List FaultLine) (steps same : List Step) (p : NodeId)
    → Some p ≡ first_unfinished old.state (spent_by lines steps) → same ≡ steps → new.state ≡ old.state
    → first_unfinished new.state (spent_by lines same) ≡ Some p
still-left old new lines steps same p some is stays =
    ap (λ (s : State). first_unfinished s (spent_by lines same)) stays ∙ ap (λ (xs : List Step). first_unfinished old.state (spent_by lines xs)) is ∙ sym some

-- ---- of a run whose world did not begin

pub unbegun-stopped : (start : Start) (was left : StoreValue) (scene : SceneModel) (lines : List FaultLine) (cause : StartError) (fault : RunFault)
    → fault ≡ fault_of cause → IsErrorOf start cause → IsUnbegun scene was left cause → IsStopped start was left scene lines fault
unbegun-stopped start was left scene lines cause fault is kind h =
    subst (IsStopped start was left scene lines) (sym is) (by cause kind h)
  where
    by : (cause : StartError) → IsErrorOf start cause → IsUnbegun scene was left cause → IsStopped start was left scene lines (fault_of cause)
    by (unbegun.Open e) kind h = (kind, h)
    by (unbegun.Resume e) kind h = (kind, h)

pub unbegun-left : (cause : StartError) (fault : RunFault) → fault ≡ fault_of cause → IsUnbegunFault fault
unbegun-left cause fault is = subst IsUnbegunFault (sym is) (by cause)
  where
    by : (cause : StartError) → IsUnbegunFault (fault_of cause)
    by (unbegun.Open e) = tt
    by (unbegun.Resume e) = tt

-- ---- of a run that began, and its journal

pub halted-stopped : (start : Start) (began : WorldModel) (was : StoreValue) (scene : SceneModel) (lines : List FaultLine) (j : Journal) (fault : RunFault)
    → AreLater was.counts began.counts → (IsTrue j.world.is_honest → Leads start was.content scene j.steps j.world.state) → IsHalted began j fault
    → IsStopped start was (store_of j.world) scene lines fault
halted-stopped start began was scene lines j (runs.Open cause) le made h = absurd h
halted-stopped start began was scene lines j (runs.Resume cause) le made h = absurd h
halted-stopped start began was scene lines j (runs.Step at cause) le made h =
    record { journal = j; store = refl; made = made; refused = refused-since was.counts began.counts j at cause le h }
halted-stopped start began was scene lines j (runs.Close cause) le made h = record { journal = j; store = refl; made = made }
halted-stopped start began was scene lines j runs.Memory le made h = record { journal = j; store = refl; made = made }
halted-stopped start began was scene lines j (runs.Unfinished node) le made h = absurd h

pub halted-left : (start : Start) (began : WorldModel) (was : StoreValue) (scene : SceneModel) (lines : List FaultLine) (j : Journal) (fault : RunFault)
    → AreLater was.counts began.counts
    → (IsTrue j.world.is_honest → Leads start was.content scene j.steps j.world.state) → IsHalted began j fault
    → IsLeftJournal start was scene lines fault j
halted-left start began was scene lines j (runs.Open cause) le made h = absurd h
halted-left start began was scene lines j (runs.Resume cause) le made h = absurd h
halted-left start began was scene lines j (runs.Step at cause) le made h =
    record { made = made; shown = refused-since was.counts began.counts j at cause le h }
halted-left start began was scene lines j (runs.Close cause) le made h = record { made = made; shown = tt }
halted-left start began was scene lines j runs.Memory le made h = record { made = made; shown = tt }
halted-left start began was scene lines j (runs.Unfinished node) le made h = absurd h

-- this node has a next step in the world that the journal has
pub left-over : (start : Start) (was : StoreValue) (scene : SceneModel) (lines : List FaultLine) (p : NodeId) (j : Journal)
    → (IsTrue j.world.is_honest → Leads start was.content scene j.steps j.world.state)
    → (IsTrue j.world.is_honest → first_unfinished j.world.state (spent_by lines j.steps) ≡ Some p)
    → IsStopped start was (store_of j.world) scene lines (runs.Unfinished p)
left-over start was scene lines p j made next = record { steps = j.steps; state = j.world.state; made = made; next = next; kept = λ h. refl }
