-- The text of a journal is read as the scenario of its steps.
-- Cited by `laws::what_a_journal_tells_is_read`; other crates.
use Rattle.std.proofs.Common.{◌≡◌, ℕ, ◌≤◌, List, [], ◌∷◌, ◌++◌, length, map, Ok, refl, sym, ap, ◌∙◌, append_assoc, arith}
use Rattle.std.proofs.lemmas.Grind.{flat_map-append}
use Rattle.std.proofs.lemmas.List.Elements.{All-nil, All-cons, All-head, All-tail, All-append, filter-append}
use Rattle.std.specs.Prelude.{◌≢◌, All, codes, filter}
use Rattle.std.specs.List.{flat_map}
use Rattle.kt_text.specs.declared.reading.TheConstants.{MAX_TEXT}
use Rattle.kt_scenario.specs.declared.step.Step.{Step}
use Rattle.kt_scenario.specs.Scene.{SceneModel}
use Rattle.kt_text.specs.declared.scenario.WorkKind.TheVariants as kinds
use Rattle.kt_scene.specs.Journal.{remark, journal_text}
use Rattle.kt_text.specs.Reading.{scenario_of_steps}
use Rattle.kt_text.specs.Reading.{lines_of, scenario_of}
use Rattle.kt_text.specs.Text.{text_line}
use Rattle.kt_text.specs.Scenario.{IsScenarioModel, IsLine, IsScenario, is_told}
use Rattle.kt_text.specs.Text.{told_lines, scenario_text}
use Rattle.kt_text.proofs.Shared.{text_has_lines}
use Rattle.kt_text.proofs.Shared.{wanted_is_read}
use Rattle.kt_text.proofs.Shared.{lines_told, each_line, none_ignored}

abbrev remarked : List ℕ → List ℕ
remarked line = codes "# " ++ line

remarks_are : (lines : List (List ℕ)) → flat_map remark lines ≡ flat_map text_line (map remarked lines)
remarks_are [] = refl
remarks_are (line ∷ later) = ap (λ (t : List ℕ). remark line ++ t) (remarks_are later)

remarks_ignored : (lines : List (List ℕ)) → filter is_told (map remarked lines) ≡ []
remarks_ignored [] = refl
remarks_ignored (line ∷ later) = remarks_ignored later

remarks_lines : (lines : List (List ℕ)) → All IsLine lines → All IsLine (map remarked lines)
remarks_lines [] h = All-nil IsLine
remarks_lines (line ∷ later) h =
    let P : ℕ → Type 0 = λ c. c ≢ 10 in
    let first : IsLine (remarked line) = All-cons P 35 (32 ∷ line) (λ e. absurd (omega (arith, e)))
    (All-cons P 32 line (λ e. absurd (omega (arith, e))) (All-head IsLine line later h)) in
    All-cons IsLine (remarked line) (map remarked later) first (remarks_lines later (All-tail IsLine line later h))

-- the text of a journal is that of a scenario, whose ignored lines are the report's
pub journal_is_scenario : (report : List ℕ) (scene : SceneModel) (steps : List Step) → IsScenarioModel (scenario_of_steps scene steps)
    → length (journal_text report scene steps) ≤ MAX_TEXT
    → IsScenario (journal_text report scene steps) (scenario_of_steps scene steps)
journal_is_scenario report scene steps rules short =
    let model = scenario_of_steps scene steps in
    let found = (lines_of report).0 in
    let told = lines_told model rules in
    let end = codes "end" ∷ [] in
    record {
      rules = rules;
      lines = map remarked found ++ told_lines model;
      each = All-append IsLine (map remarked found) (told_lines model) (remarks_lines found (text_has_lines report).1) (each_line (told_lines model) told);
      told = filter-append is_told (map remarked found) (told_lines model)
          ∙ ap (λ (l : List (List ℕ)). l ++ filter is_told (told_lines model)) (remarks_ignored found) ∙ none_ignored (told_lines model) told;
      is =
          ap (λ (t : List ℕ). t ++ scenario_text model) (remarks_are found) ∙ sym (flat_map-append text_line (map remarked found) (told_lines model ++ end))
          ∙ ap (flat_map text_line) (sym (append_assoc (map remarked found) (told_lines model) end));
      short = short;
    }

pub journal_is_read : (report : List ℕ) (scene : SceneModel) (steps : List Step) → IsScenarioModel (scenario_of_steps scene steps)
    → length (journal_text report scene steps) ≤ MAX_TEXT
    → scenario_of kinds.Steps (journal_text report scene steps) ≡ Ok (scenario_of_steps scene steps)
journal_is_read report scene steps rules short =
    wanted_is_read kinds.Steps (journal_text report scene steps) (scenario_of_steps scene steps) (journal_is_scenario report scene steps rules short) refl
