-- Texts that are written one after the other.
-- Cited by Reports, TupleLists, report.rt, `report::push_texts`, `report::texts_of`.
use Rattle.std.specs.Prelude.{◌≡◌, ℕ, List, ◌++◌, codes, length, map}
use Rattle.std.specs.Global.{Vec}
use Rattle.std.specs.List.{flat_map}
use Rattle.kt_tuple.specs.declared.service.Service.{Service}
use Rattle.kt_tuple.specs.declared.tuple.Tuple.{Tuple}
use Rattle.kt_tuple.specs.Spelling.{tuple_text}
use Rattle.kt_scene.specs.Report.{IsTextList, count_line, service_line}

abbrev pub items_of : List (Vec ℕ) → List (List ℕ)
items_of texts = map (λ t. t.items) texts

-- the list of the texts stands at the end
pub record AppendsTexts (word : List ℕ) (given : List (List ℕ)) (old new : List ℕ) : Type 0 where
  pub text : List ℕ
  pub listed : IsTextList word given text
  pub appended : new ≡ old ++ text

-- the lines of a report stand at the end
pub record AppendsReport (survivors : List Service) (lost : ℕ) (space permanent : List Tuple) (old new : List ℕ)
    : Type 0 where
  pub before : List ℕ
  pub between : List ℕ
  pub told : before ≡ old ++ count_line (codes "survivors ") (length survivors) ++ flat_map service_line survivors
      ++ count_line (codes "lost ") lost
  pub spaced : AppendsTexts (codes "space ") (map tuple_text space) before between
  pub kept : AppendsTexts (codes "permanent ") (map tuple_text permanent) between new
