-- The report of a world, as text.
-- Cited by JournalWritten, OneReport, Reports, TupleLists, laws.rt, report.rt, specs/Journal, specs/Run,
--   specs/auxiliary/Texts, `report::push_report`, `report::push_services`; other crates.
use Rattle.std.specs.Prelude.{◌≡◌, ℕ, Bool, List, ◌++◌, length, map, codes, decimal, IsPermutation, IsTrue}
use Rattle.std.specs.List.{flat_map}
use Rattle.std.specs.List.Sorted.{IsSorted}
use Rattle.std.specs.Ordering.{nat_cmp}
use Rattle.std.specs.Cmp.Lexicographic.{slice_cmp}
use Rattle.kt_tuple.specs.declared.tuple.Tuple.{Tuple}
use Rattle.kt_tuple.specs.declared.service.Service.{Service}
use Rattle.kt_tuple.specs.Space.{IsSpaceRun}
use Rattle.kt_tuple.specs.Spelling.{tuple_text, service_text}
use Rattle.kt_history.specs.declared.note.Note.{Note}
use Rattle.kt_history.specs.Survival.{services, lost_count}
use Rattle.kt_model.specs.State.{State}
use Rattle.kt_model.specs.Cut.{permanent_tuples}
use Rattle.kt_text.specs.Text.{line_end, text_line}
use Rattle.kt_scene.specs.Outside.{Writer}
use Rattle.kt_scene.specs.Stream.{WritesAll, WritesFront}

-- a word, and how many there are
abbrev pub count_line : List ℕ → ℕ → List ℕ
count_line word count = word ++ decimal count ++ line_end

-- a service, on a line
abbrev pub service_line : Service → List ℕ
service_line s = text_line (service_text s)

-- how many texts, and each of them on a line, in rising order of the bytes, equal ones repeated
pub record IsTextList (word : List ℕ) (given : List (List ℕ)) (text : List ℕ) : Type 0 where
  pub texts : List (List ℕ)
  pub same : IsPermutation given texts
  pub rising : IsSorted (slice_cmp nat_cmp) texts
  pub is : text ≡ count_line word (length texts) ++ flat_map text_line texts

-- the list of the tuples' texts
abbrev pub IsTupleList : List ℕ → List Tuple → List ℕ → Type 0
IsTupleList word tuples text = IsTextList word (map tuple_text tuples) text

-- the surviving services, how many do not survive, the tuples that the survivors lead to as one run of a
-- sequential tuple space, and the permanent tuples. Where the store was not honest, the survivors may be no run; what
-- is told then of the tuples is left open.
pub record IsReport (is_honest : Bool) (h : List Note) (permanent : List Tuple) (text : List ℕ) : Type 0 where
  pub space : List Tuple
  pub run : IsTrue is_honest → IsSpaceRun (services h) space
  pub space_text : List ℕ
  pub space_listed : IsTupleList (codes "space ") space space_text
  pub permanent_text : List ℕ
  pub permanent_listed : IsTupleList (codes "permanent ") permanent permanent_text
  pub is : text ≡ count_line (codes "survivors ") (length (services h)) ++ flat_map service_line (services h)
      ++ count_line (codes "lost ") (lost_count h) ++ space_text ++ permanent_text

-- the text is the report of the state: an honest store gives the tuples of its permanent checkpoints
pub record IsReportOf (is_honest : Bool) (s : State) (text : List ℕ) : Type 0 where
  pub permanent : List Tuple
  pub are_permanent : IsTrue is_honest → permanent ≡ permanent_tuples s
  pub report : IsReport is_honest s.history permanent text

-- what is written and passed on is the report, and nothing else
pub record WritesReport (is_honest : Bool) (s : State) (old new : Writer) : Type 0 where
  pub text : List ℕ
  pub report : IsReportOf is_honest s text
  pub written : WritesAll old new text

-- the writer failed, and a front of the report is written
pub record WritesReportFront (is_honest : Bool) (s : State) (old new : Writer) : Type 0 where
  pub text : List ℕ
  pub report : IsReportOf is_honest s text
  pub written : WritesFront old new text
