-- When two values or places are one, as tests that compute, and that these tests decide equality.
-- Cited by equality.rt, op.rt, specs/Matching, specs/Op, template.rt, tuple.rt, value.rt; other crates.
use Rattle.std.specs.Prelude.{◌≡◌, ℕ, List, Bool, true, false, nat_eq, refl}
use Rattle.std.specs.Bool.{Decides}
use Rattle.std.specs.Cmp.{IsEquivalence, unsigned_Decides, signed_Decides}
use Rattle.std.specs.Cmp.Lexicographic.{pointwise, pointwise_decides}
use Rattle.std.specs.Ordering.{int_eq}
use Rattle.std.proofs.Common.{sym, ap, ◌∙◌}
use Rattle.kt_tuple.specs.declared.value.Value.{Value}
use Rattle.kt_tuple.specs.declared.value.Value.TheVariants.{Int, Str, Bool as Truth}
use Rattle.kt_tuple.specs.declared.value.Kind.{Kind}
use Rattle.kt_tuple.specs.declared.value.Kind.TheVariants as kinds

abbrev pub kind_eq : Kind → Kind → Bool
kind_eq kinds.Int kinds.Int = true
kind_eq kinds.Str kinds.Str = true
kind_eq kinds.Bool kinds.Bool = true
kind_eq _ _ = false

abbrev pub same_truth : Bool → Bool → Bool
same_truth true true = true
same_truth false false = true
same_truth _ _ = false

abbrev pub value_eq : Value → Value → Bool
value_eq (Int m) (Int n) = int_eq m n
value_eq (Str s) (Str t) = pointwise nat_eq s t
value_eq (Truth a) (Truth b) = same_truth a b
value_eq _ _ = false

-- two texts are equal exactly where they are one
pub text_eq_decides : (a b : List ℕ) → Decides (pointwise nat_eq a b) (a ≡ b)
text_eq_decides a b = pointwise_decides unsigned_Decides a b

pub kind_eq_decides : (a b : Kind) → Decides (kind_eq a b) (a ≡ b)
kind_eq_decides kinds.Int kinds.Int = (λ _. refl, λ _. refl)
kind_eq_decides kinds.Str kinds.Str = (λ _. refl, λ _. refl)
kind_eq_decides kinds.Bool kinds.Bool = (λ _. refl, λ _. refl)
kind_eq_decides _ _ = (λ e. absurd cc, λ e. absurd cc)

same_truth_decides : (a b : Bool) → Decides (same_truth a b) (a ≡ b)
same_truth_decides true true = (λ _. refl, λ _. refl)
same_truth_decides false false = (λ _. refl, λ _. refl)
same_truth_decides _ _ = (λ e. absurd cc, λ e. absurd cc)

pub value_eq_decides : (a b : Value) → Decides (value_eq a b) (a ≡ b)
value_eq_decides (Int m) (Int n) =
    (λ e. ap Int ((signed_Decides m n).0 e), λ (e : Int m ≡ Int n). (signed_Decides m n).1 cc)
value_eq_decides (Str s) (Str t) = (
  λ e. ap Str ((pointwise_decides unsigned_Decides s t).0 e),
  λ (e : Str s ≡ Str t). (pointwise_decides unsigned_Decides s t).1 cc,
)
value_eq_decides (Truth a) (Truth b) =
    (λ e. ap Truth ((same_truth_decides a b).0 e), λ (e : Truth a ≡ Truth b). (same_truth_decides a b).1 cc)
value_eq_decides _ _ = (λ e. absurd cc, λ e. absurd cc)

-- a test that decides equality is an equivalence
pub equivalence_from_decides : {K : Type 0} (E : K → K → Bool) → ((a b : K) → Decides (E a b) (a ≡ b)) → IsEquivalence E
equivalence_from_decides E d = record {
  refl = λ x. (d x x).1 refl;
  symm = λ x y. same (E x y) (E y x) (λ e. (d y x).1 (sym ((d x y).0 e))) (λ e. (d x y).1 (sym ((d y x).0 e)));
  congr = λ x y z e. ap (λ v. E v z) ((d x y).0 e);
} where
  same : (a b : Bool) → (a ≡ true → b ≡ true) → (b ≡ true → a ≡ true) → a ≡ b
  same true b f g = sym (f refl)
  same false true f g = g refl
  same false false f g = refl

-- a test that answers as one that decides equality decides it too
pub decides_as : {K : Type 0} {E F : K → K → Bool} → ((a b : K) → Decides (E a b) (a ≡ b)) → ((a b : K) → F a b ≡ E a b)
    → (a b : K) → Decides (F a b) (a ≡ b)
decides_as d same a b = (λ e. (d a b).0 (sym (same a b) ∙ e), λ e. same a b ∙ (d a b).1 e)
