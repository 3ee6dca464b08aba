-- What a run came to, and what is written of it.
-- Cited by `running::run_read`, `running::run_text_returning_store`, `running::run_told`.
use Rattle.std.proofs.Common.{◌≡◌, ℕ, Bool, true, List, Some, None, Result, Ok, Err, sym, ap, subst, ◌∙◌}
use Rattle.std.specs.Prelude.{IfErr, IfOk, OnOk, IsTrue}
use Rattle.kt_core.specs.Store.{AreLater, StoreValue}
use Rattle.kt_core.specs.World.{WorldModel}
use Rattle.kt_scenario.specs.declared.faults.FaultLine.{FaultLine}
use Rattle.kt_scenario.specs.declared.step.Step.{Step}
use Rattle.kt_scenario.specs.Scene.{SceneModel}
use Rattle.kt_model.specs.State.{State}
use Rattle.kt_scene.specs.declared.fault.ReplayFault.{ReplayFault}
use Rattle.kt_scene.specs.declared.fault.ReplayFault.TheVariants as faults
use Rattle.kt_scene.specs.Outside.{Reader, Writer}
use Rattle.kt_text.specs.Reading.{ScenarioModel}
use Rattle.kt_store.specs.Content.{Content}
use Rattle.kt_core.specs.declared.start.Start.{Start}
use Rattle.kt_scene.specs.Runs.{BeginsAndRunsTo}
use Rattle.kt_text.specs.Scenario.{IsScenario}
use Rattle.kt_scene.specs.Stream.{IsAllRead, IsReadFault, IsReportFault}
use Rattle.kt_text.specs.Work.{Work, Steps, Faults, lines_of_faults}
use Rattle.kt_stage.specs.declared.running.RunFault.{RunFault}
use Rattle.kt_stage.specs.Policy.{first_unfinished, spent_by}
use Rattle.kt_stage.specs.Running.{IsStopped, Leads}
use Rattle.kt_run.specs.declared.fault.RunTextFault.{RunTextFault}
use Rattle.kt_run.specs.declared.fault.RunTextFault.TheVariants.{Text, Run}
use Rattle.kt_run.specs.declared.running.Output.{Output}
use Rattle.kt_run.specs.Run.{IsRunOf, IsRun, Writes, WritesFront, WritesRun, WritesRunFront, IsTextFault, IsRunFault, of_reading, of_text, IsRunTextFault}
use Rattle.kt_run.specs.Run.{in_writing}
use Rattle.kt_run.proofs.Made.{all_made_runs}

work_is : (work : Work) (lines : List FaultLine) → lines_of_faults work ≡ Some lines → work ≡ Faults lines
work_is (Steps steps) lines e = absurd cc
work_is (Faults given) lines e =
    let same : given ≡ lines = cc in
    ap (λ (l : List FaultLine). Faults l) same

-- steps that lead from the start of a world begin there and run on
leads_runs : (start : Start) (c : Content) (scene : SceneModel) (steps : List Step) (s : State) → Leads start c scene steps s
    → BeginsAndRunsTo start c scene steps s
leads_runs start c scene steps s l = record { first = l.first; begins = l.begins; runs = all_made_runs l.first steps s l.made }

-- the run of a scenario that was read
pub run_of : (start : Start) (text : List ℕ) (is_honest : Bool) (c : Content) (steps : List Step) (s : State) (model : ScenarioModel) (lines : List FaultLine)
    → IsScenario text model
    → lines_of_faults model.work ≡ Some lines → (IsTrue is_honest → Leads start c model.scene steps s)
    → (IsTrue is_honest → first_unfinished s (spent_by lines steps) ≡ None)
    → IsRunOf start text is_honest c steps s
run_of start text is_honest c steps s model lines scenario are made ended = record {
  model = model;
  lines = lines;
  trial = record { scenario = scenario; faults = work_is model.work lines are };
  runs = λ honest. leads_runs start c model.scene steps s (made honest);
  ended = ended;
}

-- why the run of a scenario that was read did not come to its end
pub stopped_of : (start : Start) (was left : StoreValue) (text : List ℕ) (model : ScenarioModel) (lines : List FaultLine) (fault : RunFault)
    → IsScenario text model
    → lines_of_faults model.work ≡ Some lines → IsStopped start was left model.scene lines fault
    → IsTextFault start was left text (Run fault)
stopped_of start was left text model lines fault scenario are why = record {
  model = model;
  lines = lines;
  trial = record { scenario = scenario; faults = work_is model.work lines are };
  why = why;
}

-- what the text that was read answers comes before the writing
pub told_over : {X S : Type 0} (start : Start) (value : S → StoreValue) (was : StoreValue) (before after : Reader)
    (text held : List ℕ) (r : Result X (RunTextFault × S)) → IsAllRead before after text → held ≡ text
    → IfErr r (λ e. IsTextFault start was (value e.1) held e.0)
    → IfErr r (λ e. IsRunFault start was (value e.1) before after e.0)
told_over start value was before after text held (Ok x) read same f = tt
told_over start value was before after text held (Err e) read same f =
    let P : List ℕ → Type 0 = λ t. IsTextFault start was (value e.1) t e.0 in
    of_text text read (subst P same f)

-- a run of the text that was read is one of what was read
pub run_returning_store : {X S : Type 0} (start : Start) (before after : Reader) (text held : List ℕ) (is_honest : X → Bool) (content : Content)
    (steps : X → List Step)
    (state : X → State) (r : Result X S) → IsAllRead before after text → held ≡ text
    → IfOk r (λ j. IsRunOf start held (is_honest j) content (steps j) (state j))
    → IfOk r (λ j. IsRun start before after (is_honest j) content (steps j) (state j))
run_returning_store start before after text held is_honest content steps state (Ok j) read same h = record {
  text = text;
  read = read;
  run = subst (λ (t : List ℕ). IsRunOf start t (is_honest j) content (steps j) (state j)) same h;
}
run_returning_store start before after text held is_honest content steps state (Err e) read same h = tt

-- a store that is honest when it is left was so when the run ended
run_left : (start : Start) (before after : Reader) (ended left : Bool) (content : Content) (steps : List Step) (s : State) → (IsTrue left → IsTrue ended)
    → IsRun start before after ended content steps s → IsRun start before after left content steps s
run_left start before after ended left content steps s honest h = record {
  text = h.text;
  read = h.read;
  run = record {
    model = h.run.model;
    lines = h.run.lines;
    trial = h.run.trial;
    runs = λ now. h.run.runs (honest now);
    ended = λ now. h.run.ended (honest now);
  };
}

-- what a run ended in: its world, and the store as it was left after the writing
module _ (start : Start) (was left : StoreValue) (before after : Reader) (world : WorldModel) (steps : List Step)
    (run : IsRun start before after world.is_honest was.content steps world.state) (honest : IsTrue left.is_honest → IsTrue world.is_honest)
    (kept : IsTrue left.is_honest → left.content ≡ world.state.content) (later : AreLater was.counts world.counts) where
  ran : IsRun start before after left.is_honest was.content steps world.state
  ran = run_left start before after world.is_honest left.is_honest was.content steps world.state honest run

  pub run_written : (output : Output) (old new : Writer) → left.counts ≡ world.counts → Writes output left.is_honest world.state steps old new
      → WritesRun start was left output before after old new
  run_written output old new same written = record {
    steps = steps;
    state = world.state;
    run = ran;
    kept = kept;
    later = subst (AreLater was.counts) (sym same) later;
    written = written;
  }

  pub run_front : (output : Output) (old new : Writer) → left.counts ≡ world.counts → WritesFront output left.is_honest world.state steps old new
      → WritesRunFront start was left output before after old new
  run_front output old new same written = record {
    steps = steps;
    state = world.state;
    run = ran;
    kept = kept;
    later = subst (AreLater was.counts) (sym same) later;
    written = written;
  }

  pub fault_in_writing : (fault : ReplayFault) → IsReportFault world.counts left.counts left.is_honest fault
      → IsRunTextFault start was left before after (Text fault)
  fault_in_writing fault is =
      in_writing (record { steps = steps; state = world.state; run = ran; kept = kept; counts = world.counts; later = later; is = is })

read_by_name : (before after : Reader) (fault : ReplayFault) → IsReadFault before after fault → fault ≡ faults.Write → ⊥
read_by_name before after fault h e = subst (IsReadFault before after) e h

-- before the writing nothing is answered of the writer
pub never_written : (start : Start) (was left : StoreValue) (before after : Reader) (fault : RunTextFault) → IsRunFault start was left before after fault
    → fault ≡ Text faults.Write → ⊥
never_written start was left before after _ (of_reading {fault} h same_store) e =
    let same : fault ≡ faults.Write = cc in
    read_by_name before after fault h same
never_written start was left before after fault (of_text text read h) e = subst (IsTextFault start was left text) e h

pub never_front : {X A : Type 0} (start : Start) (was left : StoreValue) (before after : Reader) (r : Result X RunTextFault) (fault : RunTextFault)
    → IsRunFault start was left before after fault → r ≡ Err fault → r ≡ Err (Text faults.Write) → A
never_front start was left before after r fault h is e =
    let same : fault ≡ Text faults.Write = cc in
    absurd (never_written start was left before after fault h same)

-- ---- what is known of an answer by which of both it is

pub on_ok : {X E P : Type 0} (r : Result X E) (x : X) → r ≡ Ok x → OnOk r P → P
on_ok (Ok y) x e h = h
on_ok (Err f) x e h = absurd cc

pub if_err : {X E : Type 0} (P : E → Type 0) (r : Result X E) (fault : E) → r ≡ Err fault → IfErr r P → P fault
if_err P (Ok y) fault e h = absurd cc
if_err P (Err f) fault e h =
    let same : f ≡ fault = cc in
    subst P same h

-- the fault of a text is told as it is
pub err_named : {X : Type 0} (r : Result X ReplayFault) (told : Result X RunTextFault) (fault other : ReplayFault) → r ≡ Err fault → told ≡ Err (Text fault)
    → told ≡ Err (Text other) → r ≡ Err other
err_named r told fault other is same_told e =
    let same : fault ≡ other = cc in
    is ∙ ap (λ (f : ReplayFault). Err f) same
