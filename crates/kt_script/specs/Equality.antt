-- When two actuals or two places of a command's template are one, as tests that compute, and that these tests
-- decide equality.
-- Cited by equality.rt.
use Rattle.std.specs.Prelude.{◌≡◌, Bool, false, nat_eq, ◌&&◌, Option, None, Some, refl}
use Rattle.std.specs.Bool.{Decides}
use Rattle.std.specs.Cmp.Lexicographic.{pointwise}
use Rattle.std.specs.Option.{option_eq}
use Rattle.std.proofs.Common.{ap, ◌∙◌}
use Rattle.std.proofs.lemmas.Bool.{and_parts, and_from}
use Rattle.kt_tuple.specs.Equality.{kind_eq, kind_eq_decides, text_eq_decides, value_eq, value_eq_decides}
use Rattle.kt_script.specs.declared.name.Name.{Name}
use Rattle.kt_script.specs.declared.command.Actual.{Actual}
use Rattle.kt_script.specs.declared.command.Actual.TheVariants as actuals
use Rattle.kt_script.specs.declared.command.Slot.{Slot}
use Rattle.kt_script.specs.declared.command.Slot.TheVariants as slots

abbrev pub name_eq : Name → Name → Bool
name_eq a b = pointwise nat_eq a b

abbrev pub actual_eq : Actual → Actual → Bool
actual_eq (actuals.Literal v) (actuals.Literal w) = value_eq v w
actual_eq (actuals.Variable a) (actuals.Variable b) = name_eq a b
actual_eq _ _ = false

abbrev pub slot_eq : Slot → Slot → Bool
slot_eq (slots.Actual a) (slots.Actual b) = actual_eq a b
slot_eq (slots.Formal k a) (slots.Formal j b) = kind_eq k j && option_eq name_eq a b
slot_eq _ _ = false

pub actual_eq_decides : (a b : Actual) → Decides (actual_eq a b) (a ≡ b)
actual_eq_decides (actuals.Literal v) (actuals.Literal w) = (
  λ e. ap actuals.Literal ((value_eq_decides v w).0 e),
  λ (e : actuals.Literal v ≡ actuals.Literal w). (value_eq_decides v w).1 cc,
)
actual_eq_decides (actuals.Variable a) (actuals.Variable b) = (
  λ e. ap actuals.Variable ((text_eq_decides a b).0 e),
  λ (e : actuals.Variable a ≡ actuals.Variable b). (text_eq_decides a b).1 cc,
)
actual_eq_decides _ _ = (λ e. absurd cc, λ e. absurd cc)

bound_eq_decides : (a b : Option Name) → Decides (option_eq name_eq a b) (a ≡ b)
bound_eq_decides None None = (λ _. refl, λ _. refl)
bound_eq_decides (Some a) (Some b) =
    (λ e. ap Some ((text_eq_decides a b).0 e), λ (e : Some a ≡ Some b). (text_eq_decides a b).1 cc)
bound_eq_decides None (Some b) = (λ e. absurd cc, λ e. absurd cc)
bound_eq_decides (Some a) None = (λ e. absurd cc, λ e. absurd cc)

pub slot_eq_decides : (a b : Slot) → Decides (slot_eq a b) (a ≡ b)
slot_eq_decides (slots.Actual a) (slots.Actual b) = (
  λ e. ap slots.Actual ((actual_eq_decides a b).0 e),
  λ (e : slots.Actual a ≡ slots.Actual b). (actual_eq_decides a b).1 cc,
)
slot_eq_decides (slots.Formal k a) (slots.Formal j b) = (
  λ e.
      let both = and_parts _ _ e in
      ap (λ i. slots.Formal i a) ((kind_eq_decides k j).0 both.0)
      ∙ ap (slots.Formal j) ((bound_eq_decides a b).0 both.1),
  λ (e : slots.Formal k a ≡ slots.Formal j b). and_from _ _ ((kind_eq_decides k j).1 cc) ((bound_eq_decides a b).1 cc),
)
slot_eq_decides _ _ = (λ e. absurd cc, λ e. absurd cc)
