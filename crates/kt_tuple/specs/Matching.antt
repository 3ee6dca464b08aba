-- When a tuple fits a template (Gelernter, "Generative Communication in Linda", section 2).
-- Cited by Actuals, Backwards, Homes, Texts, Wholes, WholesRead, equality.rt, laws.rt, specs/Op, specs/Space,
--   template.rt, tuple.rt, `template::all_admit`, `template::each_admits`; other crates.
use Rattle.std.specs.Prelude.{◌≡◌, ◌≤◌, ◌↔◌, Bool, false, List, length}
use Rattle.std.specs.Bool.{Decides}
use Rattle.std.proofs.Common.{sym, ap}
use Rattle.std.specs.List.{AllZip}
use Rattle.std.specs.Cmp.Lexicographic.{pointwise}
use Rattle.kt_tuple.specs.declared.value.Value.{Value}
use Rattle.kt_tuple.specs.declared.tuple.TheConstants.{MAX_PLACES}
use Rattle.kt_tuple.specs.declared.template.Place.{Place}
use Rattle.kt_tuple.specs.declared.template.Place.TheVariants.{Actual, Formal}
use Rattle.kt_tuple.specs.Value.{kind_of}
use Rattle.kt_tuple.specs.Equality.{kind_eq, value_eq, kind_eq_decides, value_eq_decides}

-- one place at least, and no more than `MAX_PLACES`
abbrev pub HasArity : {A : Type 0} → List A → Type 0
HasArity places = (1 ≤ length places) × (length places ≤ MAX_PLACES)

-- an actual admits its own value, a formal each value of its kind
abbrev pub Admits : Place → Value → Type 0
Admits (Actual v) u = u ≡ v
Admits (Formal k) u = kind_of u ≡ k

-- as many places as values, and each place admits its value
abbrev pub Matches : List Place → List Value → Type 0
Matches template tuple = AllZip Admits template tuple

-- the template fits this tuple and no other
abbrev pub MatchesOnly : List Place → List Value → Type 0
MatchesOnly template tuple = (other : List Value) → Matches template other ↔ (other ≡ tuple)

-- the same as tests that compute
abbrev pub admits : Place → Value → Bool
admits (Actual v) u = value_eq v u
admits (Formal k) u = kind_eq k (kind_of u)

abbrev pub matches : List Place → List Value → Bool
matches template tuple = pointwise admits template tuple

-- two places are one
abbrev pub place_eq : Place → Place → Bool
place_eq (Actual v) (Actual w) = value_eq v w
place_eq (Actual v) (Formal k) = false
place_eq (Formal j) (Actual w) = false
place_eq (Formal j) (Formal k) = kind_eq j k

pub place_eq_decides : (a b : Place) → Decides (place_eq a b) (a ≡ b)
place_eq_decides (Actual v) (Actual w) =
    (λ e. ap Actual ((value_eq_decides v w).0 e), λ (e : Actual v ≡ Actual w). (value_eq_decides v w).1 cc)
place_eq_decides (Actual v) (Formal k) = (λ e. absurd cc, λ e. absurd cc)
place_eq_decides (Formal j) (Actual w) = (λ e. absurd cc, λ e. absurd cc)
place_eq_decides (Formal j) (Formal k) =
    (λ e. ap Formal ((kind_eq_decides j k).0 e), λ (e : Formal j ≡ Formal k). (kind_eq_decides j k).1 cc)

pub admits_decides : (p : Place) (u : Value) → Decides (admits p u) (Admits p u)
admits_decides (Actual v) u = (λ e. sym ((value_eq_decides v u).0 e), λ e. (value_eq_decides v u).1 (sym e))
admits_decides (Formal k) u =
    (λ e. sym ((kind_eq_decides k (kind_of u)).0 e), λ e. (kind_eq_decides k (kind_of u)).1 (sym e))
