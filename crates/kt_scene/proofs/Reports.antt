-- The report that is written is that of the world, whose permanent tuples were asked for first.
-- Cited by `report::report_of`.
use Rattle.std.proofs.Common.{◌≡◌, ℕ, Bool, List, [], ◌++◌, length, sym, ap, subst, ◌∙◌}
use Rattle.std.specs.Prelude.{IsTrue, codes}
use Rattle.std.specs.List.{flat_map}
use Rattle.kt_tuple.specs.declared.service.Service.{Service}
use Rattle.kt_tuple.specs.Space.{IsSpaceRun}
use Rattle.kt_history.specs.Run.{IsRun}
use Rattle.kt_history.specs.Survival.{services, lost_count}
use Rattle.kt_tuple.specs.declared.tuple.Tuple.{Tuple}
use Rattle.kt_history.specs.declared.note.Note.{Note}
use Rattle.kt_scene.specs.Report.{count_line, service_line, IsReport}
use Rattle.kt_scene.specs.auxiliary.Texts.{AppendsReport}

-- the parts of a report, one behind the other
pub reported : (is_honest : Bool) (h : List Note) (permanent space : List Tuple) (known : List Service) (lost : ℕ) (text : List ℕ)
    → known ≡ services h → lost ≡ lost_count h → (IsTrue is_honest → IsRun (services h)) → (IsRun known → IsSpaceRun known space)
    → AppendsReport known lost space permanent [] text → IsReport is_honest h permanent text
reported is_honest h permanent space known lost text same few runs leads appended =
    let tuples = appended.spaced in
    let last = appended.kept in
    let Spells : List Service → Type 0 = λ l. IsSpaceRun l space in
    let all : List Service → ℕ → List ℕ =
    λ l m. count_line (codes "survivors ") (length l) ++ flat_map service_line l ++ count_line (codes "lost ") m ++ tuples.text ++ last.text in
    let parts : text ≡ all known lost =
    last.appended ∙ ap (λ (t : List ℕ). t ++ last.text) (tuples.appended ∙ ap (λ (t : List ℕ). t ++ tuples.text) appended.told) in
    record {
      space = space;
      run = λ honest. subst Spells same (leads (subst IsRun (sym same) (runs honest)));
      space_text = tuples.text;
      space_listed = tuples.listed;
      permanent_text = last.text;
      permanent_listed = last.listed;
      is = parts ∙ ap (λ (l : List Service). all l lost) same ∙ ap (λ (m : ℕ). all (services h) m) few;
    }
