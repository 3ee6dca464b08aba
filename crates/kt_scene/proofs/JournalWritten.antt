-- What is written of a journal is its text, with the report of the world.
-- Cited by `journal::write_journal`.
use Rattle.std.proofs.Common.{◌≡◌, ◌++◌, ℕ, Bool, List, Option, Result, Ok, Err, ap, subst, ◌∙◌}
use Rattle.std.specs.Prelude.{OnOk, OnErr}
use Rattle.kt_scenario.specs.declared.step.Step.{Step}
use Rattle.kt_scenario.specs.Scene.{SceneModel}
use Rattle.kt_model.specs.State.{State}
use Rattle.kt_scene.specs.declared.fault.ReplayFault.{ReplayFault}
use Rattle.kt_scene.specs.declared.fault.ReplayFault.TheVariants as faults
use Rattle.kt_scene.specs.Outside.{Writer}
use Rattle.kt_scene.specs.Report.{IsReportOf}
use Rattle.kt_scene.specs.Stream.{WritesAll, WritesFront}
use Rattle.kt_scene.specs.Journal.{journal_of, journal_text, origin, WritesJournal, WritesJournalFront}

-- the text is that of the report and of the scene that were given
pub journal_told : (text given report : List ℕ) (began found : Option ℕ) (given_scene scene : SceneModel) (steps : List Step)
    → text ≡ journal_text (origin began ++ given) given_scene steps → given ≡ report → began ≡ found → given_scene ≡ scene
    → text ≡ journal_text (origin found ++ report) scene steps
journal_told text given report began found given_scene scene steps is same held there =
    is ∙ ap (λ (t : List ℕ). journal_text (origin began ++ t) given_scene steps) same
    ∙ ap (λ (o : Option ℕ). journal_text (origin o ++ report) given_scene steps) held
    ∙ ap (λ (c : SceneModel). journal_text (origin found ++ report) c steps) there

pub journal_whole : {X : Type 0} (r : Result X ReplayFault) (is_honest : Bool) (s : State) (steps : List Step) (old new : Writer) (report text : List ℕ)
    → IsReportOf is_honest s report → text ≡ journal_of s report steps → OnOk r (WritesAll old new text)
    → OnOk r (WritesJournal is_honest s steps old new)
journal_whole (Err fault) is_honest s steps old new report text told is h = tt
journal_whole (Ok x) is_honest s steps old new report text told is h =
    record { report = report; is_report = told; written = subst (λ (t : List ℕ). WritesAll old new t) is h }

pub journal_front : {X : Type 0} (r : Result X ReplayFault) (is_honest : Bool) (s : State) (steps : List Step) (old new : Writer) (report text : List ℕ)
    → IsReportOf is_honest s report → text ≡ journal_of s report steps → OnErr r (WritesFront old new text)
    → r ≡ Err faults.Write → WritesJournalFront is_honest s steps old new
journal_front (Ok x) is_honest s steps old new report text told is h e = absurd cc
journal_front (Err fault) is_honest s steps old new report text told is h e =
    record { report = report; is_report = told; written = subst (λ (t : List ℕ). WritesFront old new t) is h }
