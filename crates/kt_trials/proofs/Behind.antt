-- What a run with random faults writes, and what it answers.
-- Cited by `chaos::laid_of`, `chaos::laid_read`, `chaos::laid_told`, `chaos::run_chaos_returning_store`,
--   `chaos::run_laid`.
use Rattle.std.proofs.Common.{◌≡◌, ℕ, ◌-◌, take, Bool, List, [], ◌++◌, Result, Ok, Err, length, refl, sym, ap, subst, ◌∙◌}
use Rattle.std.specs.Prelude.{Option, Some, IfErr, IfOk, OnOk, drop, map}
use Rattle.std.specs.Io.KnownBytes.{Appends}
use Rattle.std.specs.List.{flat_map}
use Rattle.std.proofs.Math.Seq.{drop-append_seam, take-length}
use Rattle.std.proofs.lemmas.List.{length-drop}
use Rattle.std.proofs.lemmas.List.Folds.{flat_map-map}
use Rattle.kt_scenario.specs.Scene.{SceneModel}
use Rattle.kt_scenario.specs.declared.faults.Fault.{Fault}
use Rattle.kt_scenario.specs.declared.faults.FaultLine.{FaultLine}
use Rattle.kt_scenario.specs.declared.step.Step.{Step}
use Rattle.kt_model.specs.State.{State}
use Rattle.kt_core.specs.Store.{StoreValue}
use Rattle.kt_core.specs.declared.start.Start.{Start}
use Rattle.kt_text.specs.Reading.{ScenarioModel}
use Rattle.kt_text.specs.Scenario.{IsScenario}
use Rattle.kt_text.specs.Text.{scenario_text}
use Rattle.kt_text.specs.Work.{Work, Steps, Faults, lines_of_faults, unspent}
use Rattle.kt_scene.specs.declared.fault.ReplayFault.{ReplayFault}
use Rattle.kt_scene.specs.declared.fault.ReplayFault.TheVariants as faults
use Rattle.kt_scene.specs.Outside.{Reader, Writer}
use Rattle.kt_scene.specs.Report.{IsReportOf}
use Rattle.kt_scene.specs.Stream.{IsAllRead, WritesAll, WritesFront}
use Rattle.kt_run.specs.declared.fault.RunTextFault.{RunTextFault}
use Rattle.kt_run.specs.declared.fault.RunTextFault.TheVariants.{Text}
use Rattle.kt_run.specs.declared.running.Output.{Output}
use Rattle.kt_run.specs.declared.running.Output.TheVariants as outputs
use Rattle.kt_run.specs.Run.{IsRunOf, IsRunTextFault, Writes, WritesRun}
use Rattle.kt_chaos.specs.Drawing.{random_faults}
use Rattle.kt_chaos.specs.declared.drawing.Chaos.{Chaos}
use Rattle.kt_trials.specs.Chaos.{IsBehindFault, IsChaosFault, IsEnded, IsUndrawn, WritesBehind, WritesBehindFront, WritesChaos, WritesChaosFront}
use Rattle.kt_trials.specs.Chaos.{behind, in_reading, in_text, in_writing, no_room, of_run, output_text, remarks_of}
use Rattle.kt_trials.specs.Memory.{told_of}
use Rattle.kt_trials.specs.auxiliary.Laying.{HasRemarks, IsLaidOut, IsTextUndrawn, Lays, no_memory, no_scenario, remark_of}
use Rattle.kt_trials.proofs.InMemory.{read_all}
use Rattle.kt_trials.proofs.Told.{read-named}

-- ---- what is laid

work-is : (work : Work) (lines : List FaultLine) → lines_of_faults work ≡ Some lines → work ≡ Faults lines
work-is (Steps steps) lines e = absurd cc
work-is (Faults given) lines e =
    let same : given ≡ lines = cc in
    ap (λ (l : List FaultLine). Faults l) same

-- the lines from a place on
rest-is : (n : ℕ) (lines : List FaultLine) → take (length lines - n) (drop n lines) ≡ drop n lines
rest-is n lines = ap (λ (m : ℕ). take m (drop n lines)) (sym (length-drop n lines)) ∙ take-length (drop n lines)

-- the remarks are those of the lines that were pushed
remarks-pushed : (remarks fresh : List ℕ) (lines now given : List FaultLine) (added : List Fault) → fresh ≡ []
    → remarks ≡ fresh ++ flat_map remark_of (take (length now - length given) (drop (length given) now))
    → now ≡ lines ++ map unspent added → given ≡ lines → remarks ≡ remarks_of added
remarks-pushed remarks fresh lines now given added empty is pushed same =
    let behind : take (length now - length given) (drop (length given) now) ≡ map unspent added =
    rest-is (length given) now
    ∙ ap (λ (ls : List FaultLine). drop (length ls) now) same
    ∙ ap (drop (length lines)) pushed
    ∙ drop-append_seam lines (map unspent added) in
    is
    ∙ ap (λ (xs : List ℕ). xs ++ flat_map remark_of (take (length now - length given) (drop (length given) now))) empty
    ∙ ap (flat_map remark_of) behind
    ∙ flat_map-map remark_of unspent added

-- the text with all lines, and the remarks of those that were pushed
pub has_remarks : (chaos : Chaos) (scene : SceneModel) (lines all now given : List FaultLine) (text remarks fresh : List ℕ)
    → text ≡ scenario_text (record { scene = scene; work = Faults all }) → all ≡ lines ++ map unspent (random_faults chaos scene) → fresh ≡ []
    → remarks ≡ fresh ++ flat_map remark_of (take (length now - length given) (drop (length given) now)) → now ≡ all → given ≡ lines
    → HasRemarks chaos scene lines text remarks
has_remarks chaos scene lines all now given text remarks fresh is pushed empty told kept same = record {
  added = random_faults chaos scene;
  added_are = refl;
  text_is = is ∙ ap (λ (ls : List FaultLine). scenario_text (record { scene = scene; work = Faults ls })) pushed;
  remarks_are = remarks-pushed remarks fresh lines now given (random_faults chaos scene) empty told (kept ∙ pushed) same;
}

-- the text with the faults
pub laid_told : (chaos : Chaos) (given text remarks : List ℕ) (model : ScenarioModel) (lines : List FaultLine) → IsScenario given model
    → lines_of_faults model.work ≡ Some lines → HasRemarks chaos model.scene lines text remarks → Lays chaos given text remarks
laid_told chaos given text remarks model lines scenario are h = record {
  added = h.added;
  laid = record {
    model = model;
    lines = lines;
    trial = record { scenario = scenario; faults = work-is model.work lines are };
    added_are = h.added_are;
    text_is = h.text_is;
  };
  remarks_are = h.remarks_are;
}

pub laid_out : {X E : Type 0} (chaos : Chaos) (before after : Reader) (given held : List ℕ) (text remarks : X → List ℕ) (r : Result X E)
    → IsAllRead before after given → held ≡ given → IfOk r (λ l. Lays chaos held (text l) (remarks l))
    → IfOk r (λ l. IsLaidOut chaos before after (text l) (remarks l))
laid_out chaos before after given held text remarks (Ok l) read same h =
    let lays : Lays chaos given (text l) (remarks l) = subst (λ (t : List ℕ). Lays chaos t (text l) (remarks l)) same h in
    record {
      added = lays.added;
      drawn = record { given = given; read = read; laid = lays.laid };
      remarks_are = lays.remarks_are;
    }
laid_out chaos before after given held text remarks (Err e) read same h = tt

undrawn-of : (before after : Reader) (given : List ℕ) (fault : RunTextFault) → IsAllRead before after given → IsTextUndrawn given fault
    → IsUndrawn before after fault
undrawn-of before after given _ read (no_scenario why) = in_text given read why
undrawn-of before after given _ read no_memory = no_room given read

pub undrawn_told : {X : Type 0} (before after : Reader) (given held : List ℕ) (r : Result X RunTextFault) → IsAllRead before after given → held ≡ given
    → IfErr r (IsTextUndrawn held) → IfErr r (IsUndrawn before after)
undrawn_told before after given held (Ok l) read same h = tt
undrawn_told before after given held (Err fault) read same h =
    undrawn-of before after given fault read (subst (λ (t : List ℕ). IsTextUndrawn t fault) same h)

-- ---- what is written

-- what was written behind a front, in memory
told-by : (output : Output) (honest : Bool) (s : State) (steps : List Step) (old new : Writer) → Writes output honest s steps old new
    → (report : List ℕ) × IsReportOf honest s report × Appends old.bytes new.bytes (output_text output s steps report)
told-by outputs.Report honest s steps old new w = (w.text, w.report, w.written.appended)
told-by outputs.Journal honest s steps old new w = (w.report, w.is_report, w.written.appended)

wrote-behind : (front text bytes : List ℕ) (old new : Writer) → old.bytes ≡ Some front → Some bytes ≡ new.bytes → Appends old.bytes new.bytes text
    → bytes ≡ front ++ text
wrote-behind front text bytes old new empty held some =
    subst (λ (o : Option (List ℕ)). Appends (Some front) o text) (sym held)
    (subst (λ (o : Option (List ℕ)). Appends o new.bytes text) empty some)

module _ (start : Start) (was left : StoreValue) (output : Output) (text front bytes held : List ℕ) (before after : Reader) (old new : Writer)
    (lent : before.bytes ≡ Some text) (empty : old.bytes ≡ Some front) (all : Some bytes ≡ new.bytes) (same : held ≡ bytes)
    (ran : WritesRun start was left output before after old new) where
  told : (report : List ℕ) × IsReportOf left.is_honest ran.state report × Appends old.bytes new.bytes (output_text output ran.state ran.steps report)
  told = told-by output left.is_honest ran.state ran.steps old new ran.written

  is-all : held ≡ front ++ output_text output ran.state ran.steps told.0
  is-all = same ∙ wrote-behind front (output_text output ran.state ran.steps told.0) bytes old new empty all told.2

  ended : IsEnded start was left text ran.steps ran.state
  ended = record {
    run = subst (λ (t : List ℕ). IsRunOf start t left.is_honest was.content ran.steps ran.state)
        (read_all ran.run.text text before after lent ran.run.read.bytes ran.run.read.all) ran.run.run;
    kept = ran.kept;
    later = ran.later;
  }

  pub behind_written : (first last : Writer) → WritesAll first last held → WritesBehind start was left output text front first last
  behind_written first last wrote = record {
    steps = ran.steps;
    state = ran.state;
    ended = ended;
    report = told.0;
    is_report = told.1;
    written = subst (λ (t : List ℕ). WritesAll first last t) is-all wrote;
  }

  pub behind_front : (first last : Writer) → WritesFront first last held → WritesBehindFront start was left output text front first last
  behind_front first last wrote = record {
    steps = ran.steps;
    state = ran.state;
    ended = ended;
    report = told.0;
    is_report = told.1;
    written = subst (λ (t : List ℕ). WritesFront first last t) is-all wrote;
  }

  pub behind_fault : (fault : ReplayFault) → fault ≡ faults.Write → IsBehindFault start was left text (Text fault)
  behind_fault fault is =
      subst (λ (f : ReplayFault). IsBehindFault start was left text (Text f)) (sym is) (in_writing ran.steps ran.state ended)

-- how the run of a text ends, when what it tells goes to memory
pub of_lent : (start : Start) (was left : StoreValue) (text : List ℕ) (before after : Reader) (met fault : RunTextFault) → before.bytes ≡ Some text
    → IsRunTextFault start was left before after met → fault ≡ told_of met → IsBehindFault start was left text fault
of_lent start was left text before after met fault lent is told =
    of_run (record { met = met; before = before; after = after; lent = lent; is = is; told = told })

-- ---- the whole way

module _ (start : Start) (was left : StoreValue) (chaos : Chaos) (before after : Reader) (text held remarks : List ℕ)
    (l : IsLaidOut chaos before after text remarks) (same : held ≡ text) where
  pub chaos_written : {X E : Type 0} (output : Output) (old new : Writer) (r : Result X E)
      → OnOk r (WritesBehind start was left output held remarks old new) → OnOk r (WritesChaos start was left output chaos before after old new)
  chaos_written output old new (Ok x) wrote = record {
    added = l.added;
    text = text;
    drawn = l.drawn;
    run = subst (λ (rs : List ℕ). WritesBehind start was left output text rs old new) l.remarks_are
        (subst (λ (t : List ℕ). WritesBehind start was left output t remarks old new) same wrote);
  }
  chaos_written output old new (Err e) wrote = tt

  pub chaos_front : (output : Output) (old new : Writer) → WritesBehindFront start was left output held remarks old new
      → WritesChaosFront start was left output chaos before after old new
  chaos_front output old new wrote = record {
    added = l.added;
    text = text;
    drawn = l.drawn;
    run = subst (λ (rs : List ℕ). WritesBehindFront start was left output text rs old new) l.remarks_are
        (subst (λ (t : List ℕ). WritesBehindFront start was left output t remarks old new) same wrote);
  }

  pub chaos_fault : {X : Type 0} (r : Result X RunTextFault) → IfErr r (IsBehindFault start was left held)
      → IfErr r (IsChaosFault start was left chaos before after)
  chaos_fault (Ok x) h = tt
  chaos_fault (Err fault) h =
      behind l.added text l.drawn (subst (λ (t : List ℕ). IsBehindFault start was left t fault) same h)

-- what comes before the run is never the writer's
undrawn-named : (before after : Reader) (fault : RunTextFault) → IsUndrawn before after fault → fault ≡ Text faults.Write → ⊥
undrawn-named before after _ (in_reading {fault} is) e = read-named before after fault is e
undrawn-named before after _ (in_text given read why) e = cc (e)
undrawn-named before after _ (no_room given read) e = cc (e)

pub undrawn_front : {X A : Type 0} (before after : Reader) (fault : RunTextFault) (r : Result X RunTextFault) → IsUndrawn before after fault → r ≡ Err fault
    → r ≡ Err (Text faults.Write) → A
undrawn_front before after fault r is was e =
    let same : fault ≡ Text faults.Write = cc in
    absurd (undrawn-named before after fault is same)
