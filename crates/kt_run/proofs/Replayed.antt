-- The journal of a run is a scenario, and its replay leads to the state of the run.
-- Cited by `laws::what_a_resumed_run_tells_is_resumed`, `laws::what_a_run_tells_is_replayed`,
--   `laws::what_was_made_is_replayed`.
use Rattle.std.proofs.Common.{◌≡◌, ℕ, ◌≤◌, true, List, [], length, Ok, refl, sym, ap, subst, ◌∙◌}
use Rattle.std.specs.Prelude.{All}
use Rattle.std.proofs.lemmas.List.Elements.{All-nil}
use Rattle.kt_scenario.specs.declared.step.Step.{Step}
use Rattle.kt_scenario.specs.Scene.{SceneModel}
use Rattle.kt_model.specs.Reached.{opening}
use Rattle.kt_model.specs.Resumed.{resumed}
use Rattle.kt_store.specs.Content.{Content}
use Rattle.kt_core.specs.Starting.{Begins}
use Rattle.kt_core.specs.declared.start.Start.{Start}
use Rattle.kt_core.specs.declared.start.Start.TheVariants as starts
use Rattle.kt_model.specs.State.{State}
use Rattle.kt_text.specs.declared.scenario.WorkKind.{WorkKind}
use Rattle.kt_text.specs.declared.scenario.WorkKind.TheVariants as kinds
use Rattle.kt_scene.specs.Journal.{journal_text}
use Rattle.kt_text.specs.Reading.{scenario_of_steps}
use Rattle.kt_text.specs.Reading.{ScenarioModel, scenario_of}
use Rattle.kt_scene.specs.Report.{IsReportOf}
use Rattle.kt_scene.specs.Run.{LeadsTo}
use Rattle.kt_scene.specs.Runs.{BeginsAndRunsTo, RunsTo}
use Rattle.kt_text.specs.Scenario.{IsScenarioModel, IsScenario, IsStep}
use Rattle.kt_text.specs.Work.{steps_of}
use Rattle.kt_scene.proofs.Shared.{journal_is_scenario, one_report}
use Rattle.kt_text.proofs.Shared.{wanted_is_read}
use Rattle.kt_stage.specs.Journal.{all_made}
use Rattle.kt_run.specs.Run.{IsRunOf}
use Rattle.kt_run.proofs.Made.{all_made_runs, runs_scene, runs_once}
use Rattle.kt_run.proofs.Said.{made_is_said}

-- ---- steps that lead from the start of a scene's world

-- they are the work of a scenario
steps_rules : (scene : SceneModel) (steps : List Step) → IsScenarioModel (scenario_of_steps scene []) → All IsStep steps
    → IsScenarioModel (scenario_of_steps scene steps)
steps_rules scene steps h said = record { scene = h.scene; scripts = h.scripts; commands = h.commands; work = said }

opening_said : (scene : SceneModel) (steps : List Step) (s : State) → IsScenarioModel (scenario_of_steps scene []) → RunsTo (opening scene) steps s
    → All IsStep steps
opening_said scene steps s h runs = made_is_said scene steps s h.scene h.scripts runs

steps_are_scenario : (scene : SceneModel) (steps : List Step) (report : List ℕ) → IsScenarioModel (scenario_of_steps scene []) → All IsStep steps
    → length (journal_text report scene steps) ≤ 1048576
    → IsScenario (journal_text report scene steps) (scenario_of_steps scene steps)
steps_are_scenario scene steps report h said few = journal_is_scenario report scene steps (steps_rules scene steps h said) few

-- a text is that of one scenario
one_scenario : (text : List ℕ) (kind : WorkKind) (p q : ScenarioModel) → scenario_of kind text ≡ Ok p → scenario_of kind text ≡ Ok q → p ≡ q
one_scenario text kind p q h k = cc

steps_lead_there : (start : Start) (again : Content) (first : State) (scene : SceneModel) (steps : List Step) (s : State) (report : List ℕ)
    → IsScenarioModel (scenario_of_steps scene []) → All IsStep steps → RunsTo first steps s → ((x : State) → Begins start again scene x → x ≡ first)
    → (t : State) → LeadsTo start (journal_text report scene steps) true again t → t ≡ s
steps_lead_there start again first scene steps s report h said made one t leads =
    let journal = journal_text report scene steps in
    let model = scenario_of_steps scene steps in
    let own = steps_are_scenario scene steps report h said leads.scenario.short in
    let same : leads.model ≡ model =
    one_scenario journal kinds.Steps leads.model model (wanted_is_read kinds.Steps journal leads.model leads.scenario leads.is_kind)
    (wanted_is_read kinds.Steps journal model own refl) in
    let To : ScenarioModel → Type 0 = λ p. BeginsAndRunsTo start again p.scene (steps_of p.work) t in
    let runs : BeginsAndRunsTo start again scene steps t = subst To same (leads.runs refl) in
    let from : RunsTo first steps t = subst (λ (x : State). RunsTo x steps t) (one runs.first runs.begins) runs.runs in
    runs_once steps first t s from made

-- a world that is opened, or resumed over this content, has one first state
opened_once : (c : Content) (scene : SceneModel) (x : State) → Begins starts.Open c scene x → x ≡ opening scene
opened_once c scene x begins = begins.1

resumed_once : (c : Content) (scene : SceneModel) (x : State) → Begins starts.Resume c scene x → x ≡ resumed scene c
resumed_once c scene x begins = begins.1

pub made_is_scenario : (scene : SceneModel) (steps : List Step) (s : State) (report : List ℕ) → IsScenarioModel (scenario_of_steps scene [])
    → all_made (opening scene) steps ≡ Ok s → length (journal_text report scene steps) ≤ 1048576
    → IsScenario (journal_text report scene steps) (scenario_of_steps scene steps)
made_is_scenario scene steps s report h made few =
    steps_are_scenario scene steps report h (opening_said scene steps s h (all_made_runs (opening scene) steps s made)) few

pub made_leads_there : (scene : SceneModel) (steps : List Step) (s : State) (report : List ℕ) → IsScenarioModel (scenario_of_steps scene [])
    → all_made (opening scene) steps ≡ Ok s → (c : Content) (t : State) → LeadsTo starts.Open (journal_text report scene steps) true c t → t ≡ s
made_leads_there scene steps s report h made c t leads =
    let runs = all_made_runs (opening scene) steps s made in
    steps_lead_there starts.Open c (opening scene) scene steps s report h (opening_said scene steps s h runs) runs (opened_once c scene) t leads

-- so the two have one report
pub made_one_report : (scene : SceneModel) (steps : List Step) (s : State) (report : List ℕ) → IsScenarioModel (scenario_of_steps scene [])
    → all_made (opening scene) steps ≡ Ok s → (c : Content) (t : State) → LeadsTo starts.Open (journal_text report scene steps) true c t
    → (text other : List ℕ) → IsReportOf true s text → IsReportOf true t other → text ≡ other
made_one_report scene steps s report h made c t leads text other one two =
    let Reports : State → Type 0 = λ x. IsReportOf true x other in
    one_report s text other one (subst Reports (made_leads_there scene steps s report h made c t leads) two)

-- ---- a run

module _ (start : Start) (text : List ℕ) (c : Content) (steps : List Step) (s : State) (h : IsRunOf start text true c steps s) where
  -- the scene of the state is the one that was read, where the first state has it
  same_scene : ((x : State) → Begins start c h.model.scene x → x.scene ≡ h.model.scene) → s.scene ≡ h.model.scene
  same_scene scene =
      let r = h.runs refl in
      runs_scene steps r.first s r.runs ∙ scene r.first r.begins

  run_scene : s.scene ≡ h.model.scene → IsScenarioModel (scenario_of_steps s.scene [])
  run_scene same =
      let rules = h.trial.scenario.rules in
      let there : IsScenarioModel (scenario_of_steps h.model.scene []) =
      record { scene = rules.scene; scripts = rules.scripts; commands = rules.commands; work = All-nil IsStep } in
      subst (λ (x : SceneModel). IsScenarioModel (scenario_of_steps x [])) (sym same) there

opened_scene : (text : List ℕ) (c : Content) (steps : List Step) (s : State) (h : IsRunOf starts.Open text true c steps s) → s.scene ≡ h.model.scene
opened_scene text c steps s h =
    same_scene starts.Open text c steps s h (λ x begins. ap (λ (y : State). y.scene) (opened_once c h.model.scene x begins))

resumed_scene : (text : List ℕ) (c : Content) (steps : List Step) (s : State) (h : IsRunOf starts.Resume text true c steps s) → s.scene ≡ h.model.scene
resumed_scene text c steps s h =
    same_scene starts.Resume text c steps s h (λ x begins. ap (λ (y : State). y.scene) (resumed_once c h.model.scene x begins))

pub run_is_made : (text : List ℕ) (c : Content) (steps : List Step) (s : State) → IsRunOf starts.Open text true c steps s → RunsTo (opening s.scene) steps s
run_is_made text c steps s h =
    let r = h.runs refl in
    let from : RunsTo (opening h.model.scene) steps s = subst (λ (x : State). RunsTo x steps s) (opened_once c h.model.scene r.first r.begins) r.runs in
    subst (λ (x : SceneModel). RunsTo (opening x) steps s) (sym (opened_scene text c steps s h)) from

pub resumed_run_is_made : (text : List ℕ) (c : Content) (steps : List Step) (s : State) → IsRunOf starts.Resume text true c steps s
    → RunsTo (resumed s.scene c) steps s
resumed_run_is_made text c steps s h =
    let r = h.runs refl in
    let from : RunsTo (resumed h.model.scene c) steps s = subst (λ (x : State). RunsTo x steps s) (resumed_once c h.model.scene r.first r.begins) r.runs in
    subst (λ (x : SceneModel). RunsTo (resumed x c) steps s) (sym (resumed_scene text c steps s h)) from

pub run_is_scenario : (text : List ℕ) (c : Content) (steps : List Step) (s : State) (report : List ℕ) → IsRunOf starts.Open text true c steps s
    → length (journal_text report s.scene steps) ≤ 1048576
    → IsScenario (journal_text report s.scene steps) (scenario_of_steps s.scene steps)
run_is_scenario text c steps s report h few =
    let scene = run_scene starts.Open text c steps s h (opened_scene text c steps s h) in
    steps_are_scenario s.scene steps report scene (opening_said s.scene steps s scene (run_is_made text c steps s h)) few

pub resumed_run_is_scenario : (text : List ℕ) (c : Content) (steps : List Step) (s : State) (report : List ℕ) → IsRunOf starts.Resume text true c steps s
    → All IsStep steps → length (journal_text report s.scene steps) ≤ 1048576
    → IsScenario (journal_text report s.scene steps) (scenario_of_steps s.scene steps)
resumed_run_is_scenario text c steps s report h said few =
    steps_are_scenario s.scene steps report (run_scene starts.Resume text c steps s h (resumed_scene text c steps s h)) said few

pub replay_is_same : (text : List ℕ) (c : Content) (steps : List Step) (s : State) (report : List ℕ) → IsRunOf starts.Open text true c steps s
    → (again : Content) (t : State) → LeadsTo starts.Open (journal_text report s.scene steps) true again t → t ≡ s
replay_is_same text c steps s report h again t leads =
    let scene = run_scene starts.Open text c steps s h (opened_scene text c steps s h) in
    let made = run_is_made text c steps s h in
    steps_lead_there starts.Open again (opening s.scene) s.scene steps s report scene (opening_said s.scene steps s scene made) made
    (opened_once again s.scene) t leads

pub resume_is_same : (text : List ℕ) (c : Content) (steps : List Step) (s : State) (report : List ℕ) → IsRunOf starts.Resume text true c steps s
    → All IsStep steps → (t : State) → LeadsTo starts.Resume (journal_text report s.scene steps) true c t → t ≡ s
resume_is_same text c steps s report h said t leads =
    steps_lead_there starts.Resume c (resumed s.scene c) s.scene steps s report
    (run_scene starts.Resume text c steps s h (resumed_scene text c steps s h)) said (resumed_run_is_made text c steps s h)
    (resumed_once c s.scene) t leads

-- so the two have one report
pub replay_reports_so : (text : List ℕ) (c : Content) (steps : List Step) (s : State) (report : List ℕ) → IsRunOf starts.Open text true c steps s
    → (again : Content) (t : State) → LeadsTo starts.Open (journal_text report s.scene steps) true again t
    → (told other : List ℕ) → IsReportOf true s told → IsReportOf true t other → told ≡ other
replay_reports_so text c steps s report h again t leads told other one two =
    let Reports : State → Type 0 = λ x. IsReportOf true x other in
    one_report s told other one (subst Reports (replay_is_same text c steps s report h again t leads) two)

pub resume_reports_so : (text : List ℕ) (c : Content) (steps : List Step) (s : State) (report : List ℕ) → IsRunOf starts.Resume text true c steps s
    → All IsStep steps → (t : State) → LeadsTo starts.Resume (journal_text report s.scene steps) true c t
    → (told other : List ℕ) → IsReportOf true s told → IsReportOf true t other → told ≡ other
resume_reports_so text c steps s report h said t leads told other one two =
    let Reports : State → Type 0 = λ x. IsReportOf true x other in
    one_report s told other one (subst Reports (resume_is_same text c steps s report h said t leads) two)
