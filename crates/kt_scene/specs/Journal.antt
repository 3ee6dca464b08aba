-- The text of a journal: a report as remarks, and then the scenario of the steps that led to it.
-- Cited by JournalRead, JournalWritten, journal.rt, laws.rt, `journal::push_remarks`; other crates.
use Rattle.std.specs.Prelude.{ℕ, Bool, List, [], ◌++◌, Option, None, Some, codes}
use Rattle.std.specs.List.{flat_map}
use Rattle.kt_scenario.specs.declared.step.Step.{Step}
use Rattle.kt_scenario.specs.Scene.{SceneModel}
use Rattle.kt_model.specs.State.{State}
use Rattle.kt_scene.specs.Outside.{Writer}
use Rattle.kt_text.specs.Reading.{lines_of, scenario_of_steps}
use Rattle.kt_scene.specs.Report.{IsReportOf, count_line}
use Rattle.kt_text.specs.Text.{text_line}
use Rattle.kt_scene.specs.Stream.{WritesAll, WritesFront}
use Rattle.kt_text.specs.Text.{scenario_text}

-- a line that a reader of scenarios ignores
abbrev pub remark : List ℕ → List ℕ
remark line = text_line (codes "# " ++ line)

abbrev pub remarks : List ℕ → List ℕ
remarks report = flat_map remark (lines_of report).0

abbrev pub journal_text : List ℕ → SceneModel → List Step → List ℕ
journal_text report scene steps = remarks report ++ scenario_text (scenario_of_steps scene steps)

-- where the world began: of one that was opened nothing is told, and of one that was resumed the greatest number of an
-- instance that its store held then
abbrev pub origin : Option ℕ → List ℕ
origin None = []
origin (Some instance) = count_line (codes "resumed after instance ") instance

-- the journal of these steps, which led to the state that has this report
abbrev pub journal_of : State → List ℕ → List Step → List ℕ
journal_of s report steps = journal_text (origin s.found ++ report) s.scene steps

-- what is written and passed on is the journal of these steps with the report of the state, and nothing else
pub record WritesJournal (is_honest : Bool) (s : State) (steps : List Step) (old new : Writer) : Type 0 where
  pub report : List ℕ
  pub is_report : IsReportOf is_honest s report
  pub written : WritesAll old new (journal_of s report steps)

-- the writer failed, and a front of that text is written
pub record WritesJournalFront (is_honest : Bool) (s : State) (steps : List Step) (old new : Writer) : Type 0 where
  pub report : List ℕ
  pub is_report : IsReportOf is_honest s report
  pub written : WritesFront old new (journal_of s report steps)
