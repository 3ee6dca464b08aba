-- What going on from a scenario's own steps comes to, and what its text answers.
-- Cited by `completing::begin_and_complete`, `completing::complete_returning_store`,
--   `completing::completed_or_store`, `completing::completed_told`.
use Rattle.std.proofs.Common.{◌≡◌, ◌≢◌, ℕ, List, Result, Ok, Err, refl, sym, ap, subst, ◌∙◌}
use Rattle.std.specs.Prelude.{IfErr, IfOk, IsTrue, None}
use Rattle.kt_scenario.specs.Scene.{SceneModel}
use Rattle.kt_scenario.specs.declared.step.Step.{Step}
use Rattle.kt_store.specs.Content.{Content}
use Rattle.kt_core.specs.Starting.{Begins, IsErrorOf, IsUnbegun}
use Rattle.kt_core.specs.Stepping.{step_counted}
use Rattle.kt_core.specs.Store.{StoreValue}
use Rattle.kt_core.specs.World.{WorldModel, store_of}
use Rattle.kt_core.specs.declared.start.Start.{Start}
use Rattle.kt_core.specs.declared.start.StartError.{StartError}
use Rattle.kt_core.specs.declared.start.StartError.TheVariants as unbegun
use Rattle.kt_text.specs.Reading.{scenario_of_steps}
use Rattle.kt_text.specs.Scenario.{IsScenario}
use Rattle.kt_text.specs.Work.{Work, Steps, Faults, kind_of, steps_of}
use Rattle.kt_text.specs.declared.scenario.WorkKind.TheVariants as kinds
use Rattle.kt_scene.specs.auxiliary.Unbegun.{fault_of}
use Rattle.kt_scene.specs.declared.fault.ReplayFault.{ReplayFault}
use Rattle.kt_scene.specs.declared.fault.ReplayFault.TheVariants as faults
use Rattle.kt_scene.specs.Outside.{Reader}
use Rattle.kt_scene.specs.Run.{IsTextFault, of_reading, of_text}
use Rattle.kt_scene.specs.Runs.{IsStepFault, RunsTo}
use Rattle.kt_scene.specs.Stream.{IsAllRead, IsReadFault}
use Rattle.kt_complete.specs.Completion.{GoesOnTo, IsCompleted, IsGoingFault, IsUnwritten, in_going, in_replay, next_of_all}
use Rattle.kt_complete.specs.auxiliary.Going.{IsOver, IsStop, IsStopped, IsTextStop, WentOn, of_going, of_replay}

-- ---- the scenario that was read

-- a scenario whose work is steps is the one of these steps
pub told_steps : (text : List ℕ) (scene : SceneModel) (work : Work) (steps : List Step) → kind_of work ≡ kinds.Steps → steps ≡ steps_of work
    → IsScenario text (record { scene = scene; work = work }) → IsScenario text (scenario_of_steps scene steps)
told_steps text scene (Steps given) steps kind are scenario =
    subst (λ (xs : List Step). IsScenario text (scenario_of_steps scene xs)) (sym are) scenario
told_steps text scene (Faults lines) steps kind are scenario = absurd (apart kind)
  where
    apart : kinds.Faults ≡ kinds.Steps → ⊥
    apart e = cc (e)

-- ---- a world that did not begin, and a step of the scenario that was refused

module _ (start : Start) (was : StoreValue) (text : List ℕ) (scene : SceneModel) (given : List Step)
    (scenario : IsScenario text (scenario_of_steps scene given)) where
  pub unstarted : (left : StoreValue) (cause : StartError) → IsErrorOf start cause → IsUnbegun scene was left cause
      → IsTextFault start was left text (fault_of cause)
  unstarted left (unbegun.Open cause) kind refused =
      record { model = scenario_of_steps scene given; is_kind = refl; scenario = scenario; kind = kind; refused = refused }
  unstarted left (unbegun.Resume cause) kind refused =
      record { model = scenario_of_steps scene given; is_kind = refl; scenario = scenario; kind = kind; refused = refused }

  pub first_refused : (old new : WorldModel) (fault : ReplayFault) → (IsTrue old.is_honest → Begins start was.content scene old.state)
      → old.counts ≡ was.counts → (IsTrue new.is_honest → IsTrue old.is_honest) → IsStepFault old new given fault
      → IsTextFault start was (store_of new) text fault
  first_refused old new (faults.Scene line cause) begins same honest why = absurd why
  first_refused old new (faults.Step at cause) begins same honest why = record {
    model = scenario_of_steps scene given;
    is_kind = refl;
    scenario = scenario;
    first = old.state;
    begins = λ h. begins (honest h);
    refused = why.refused;
    counts = why.counts ∙ ap (step_counted {T = Unit {0}} (Err cause)) same;
  }
  first_refused old new (faults.Open cause) begins same honest why = absurd why
  first_refused old new (faults.Resume cause) begins same honest why = absurd why
  first_refused old new (faults.Report cause) begins same honest why = absurd why
  first_refused old new faults.Memory begins same honest why = absurd why
  first_refused old new faults.Read begins same honest why = absurd why
  first_refused old new faults.Write begins same honest why = absurd why

-- ---- going on

-- the world that was opened, and the one that the scenario's own steps led to
module _ (start : Start) (was : StoreValue) (text : List ℕ) (scene : SceneModel) (given : List Step) (opened begun : WorldModel)
    (scenario : IsScenario text (scenario_of_steps scene given)) (begins : IsTrue opened.is_honest → Begins start was.content scene opened.state)
    (honest : IsTrue begun.is_honest → IsTrue opened.is_honest) (made : IsTrue begun.is_honest → RunsTo opened.state given begun.state)
    (counts : begun.counts ≡ was.counts) where
  goes_on : (new : WorldModel) (steps : List Step) → WentOn begun new given steps → GoesOnTo start text new.is_honest was.content steps new.state
  goes_on new steps went = record {
    scene = scene;
    given = given;
    scenario = scenario;
    later = went.later;
    are = went.are;
    goes = λ h. record {
      first = opened.state;
      begins = begins (honest (went.honest h));
      reached = begun.state;
      made = made (went.honest h);
      goes = went.goes h;
    };
  }

  going : (fault : ReplayFault) (new : WorldModel) (steps : List Step) → WentOn begun new given steps → IsStop begun.counts new steps fault
      → IsGoingFault start was (store_of new) text fault
  going (faults.Scene line cause) new steps went why = absurd why
  going (faults.Step at cause) new steps went why = record {
    steps = steps;
    state = new.state;
    goes = goes_on new steps went;
    count = why.0;
    why = why.1;
    kept = λ h. refl;
    counts = why.2 ∙ ap (step_counted {T = Unit {0}} (Err cause)) counts;
  }
  going (faults.Open cause) new steps went why = absurd why
  going (faults.Resume cause) new steps went why = absurd why
  going (faults.Report cause) new steps went why = absurd why
  going faults.Memory new steps went why =
      record { steps = steps; state = new.state; goes = goes_on new steps went; kept = λ h. refl; counts = why ∙ counts }
  going faults.Read new steps went why = absurd why
  going faults.Write new steps went why = absurd why

  pub goes_told : {X E : Type 0} (world : X → WorldModel) (steps : X → List Step) (r : Result X E)
      → IfOk r (λ d. WentOn begun (world d) given (steps d))
      → IfOk r (λ d. GoesOnTo start text (world d).is_honest was.content (steps d) (world d).state)
  goes_told world steps (Ok d) h = goes_on (world d) (steps d) h
  goes_told world steps (Err e) h = tt

  pub over_told : {X E : Type 0} (world : X → WorldModel) (r : Result X E) → IfOk r (λ d. IsOver begun.counts (world d))
      → IfOk r (λ d. IsTrue (world d).is_honest → next_of_all (world d).state ≡ None)
  over_told world (Ok d) h = h.over
  over_told world (Err e) h = tt

  pub counts_told : {X E : Type 0} (world : X → WorldModel) (r : Result X E) → IfOk r (λ d. IsOver begun.counts (world d))
      → IfOk r (λ d. (world d).counts ≡ was.counts)
  counts_told world (Ok d) h = h.counts ∙ counts
  counts_told world (Err e) h = tt

  pub stops_told : {X S : Type 0} (value : S → StoreValue) (r : Result X (ReplayFault × S))
      → IfErr r (λ e. IsStopped begun given (value e.1) e.0) → IfErr r (λ e. IsTextStop start was (value e.1) text e.0)
  stops_told value (Ok d) h = tt
  stops_told value (Err e) h =
      subst (λ (v : StoreValue). IsTextStop start was v text e.0) (sym h.store) (of_going (going e.0 h.new h.steps h.went h.why))

-- ---- what was read

pub completed_told : {X E : Type 0} (start : Start) (before after : Reader) (text held : List ℕ) (c : Content) (world : X → WorldModel)
    (steps : X → List Step) (r : Result X E) → IsAllRead before after text → held ≡ text
    → IfOk r (λ d. GoesOnTo start held (world d).is_honest c (steps d) (world d).state)
    → IfOk r (λ d. IsTrue (world d).is_honest → next_of_all (world d).state ≡ None)
    → IfOk r (λ d. IsCompleted start before after (world d).is_honest c (steps d) (world d).state)
completed_told start before after text held c world steps (Ok d) read same goes over = record {
  text = text;
  read = read;
  goes = subst (λ (t : List ℕ). GoesOnTo start t (world d).is_honest c (steps d) (world d).state) same goes;
  over = over;
}
completed_told start before after text held c world steps (Err e) read same goes over = tt

unwritten : (start : Start) (was left : StoreValue) (before after : Reader) (text held : List ℕ) (fault : ReplayFault)
    → IsAllRead before after text → held ≡ text → IsTextStop start was left held fault → IsUnwritten start was left before after fault
unwritten start was left before after text held fault read same (of_replay is) =
    in_replay (of_text text read (subst (λ (t : List ℕ). IsTextFault start was left t fault) same is))
unwritten start was left before after text held fault read same (of_going is) =
    in_going text read (subst (λ (t : List ℕ). IsGoingFault start was left t fault) same is)

pub stopped_told : {X S : Type 0} (start : Start) (value : S → StoreValue) (was : StoreValue) (before after : Reader) (text held : List ℕ)
    (r : Result X (ReplayFault × S)) → IsAllRead before after text → held ≡ text → IfErr r (λ e. IsTextStop start was (value e.1) held e.0)
    → IfErr r (λ e. IsUnwritten start was (value e.1) before after e.0)
stopped_told start value was before after text held (Ok d) read same is = tt
stopped_told start value was before after text held (Err e) read same is = unwritten start was (value e.1) before after text held e.0 read same is

-- no fault before the journal is the writer's
pub not_the_writers : (start : Start) (was left : StoreValue) (before after : Reader) (fault : ReplayFault)
    → IsUnwritten start was left before after fault → fault ≢ faults.Write
not_the_writers start was left before after fault (in_replay (of_reading is same)) e = subst (λ (f : ReplayFault). IsReadFault before after f) e is
not_the_writers start was left before after fault (in_replay (of_text text read is)) e =
    subst (λ (f : ReplayFault). IsTextFault start was left text f) e is
not_the_writers start was left before after fault (in_going text read is) e = subst (λ (f : ReplayFault). IsGoingFault start was left text f) e is
