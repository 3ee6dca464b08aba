-- A template and a tuple compared from the last place on.
-- Cited by `template::all_admit`, `template::each_admits`.
use Rattle.std.proofs.Common.{◌≡◌, ◌↔◌, ℕ, ◌<◌, ◌≤◌, ◌+◌, ◌-◌, IsTrue, Bool, true, false, ◌&&◌, List, [], ◌∷◌, ◌++◌, length, take, get_or}
use Rattle.std.proofs.Common.{refl, sym, ap, ◌∙◌, arith}
use Rattle.std.proofs.lemmas.Bool.{false≢true, and_parts, and_from}
use Rattle.std.proofs.lemmas.List.{take_more}
use Rattle.std.specs.Bool.{Decides}
use Rattle.std.specs.Cmp.Lexicographic.{pointwise, unequal}
use Rattle.kt_tuple.specs.declared.template.Place.{Place}
use Rattle.kt_tuple.specs.declared.value.Value.{Value}
use Rattle.kt_tuple.specs.Matching.{Matches, matches, admits, admits_decides}

none_left : (b : Bool) → false ≡ (b && false)
none_left true = refl
none_left false = refl

exchanged : (a b c : Bool) → (a && (b && c)) ≡ (b && (a && c))
exchanged true b c = refl
exchanged false true c = refl
exchanged false false c = refl

module _ {A B : Type 0} (E : A → B → Bool) where
  -- one place more behind is one test more, which may come first
  pub one_behind : (xs : List A) (ys : List B) (x : A) (y : B) → pointwise E (xs ++ x ∷ []) (ys ++ y ∷ []) ≡ (E x y && pointwise E xs ys)
  one_behind [] [] x y = refl
  one_behind [] (b ∷ []) x y = sym (none_left (E x b)) ∙ none_left (E x y)
  one_behind [] (b ∷ c ∷ ys) x y = sym (none_left (E x b)) ∙ none_left (E x y)
  one_behind (a ∷ []) [] x y = sym (none_left (E a y)) ∙ none_left (E x y)
  one_behind (a ∷ b ∷ xs) [] x y = sym (none_left (E a y)) ∙ none_left (E x y)
  one_behind (a ∷ xs) (b ∷ ys) x y = ap (λ e. E a b && e) (one_behind xs ys x y) ∙ exchanged (E a b) (E x y) (pointwise E xs ys)

-- the test of matching decides it
pub matches_decides : (t : List Place) (u : List Value) → Decides (matches t u) (Matches t u)
matches_decides [] [] = (λ e. tt, λ h. refl)
matches_decides [] (v ∷ u) = (λ e. absurd (false≢true e), λ h. absurd h)
matches_decides (p ∷ t) [] = (λ e. absurd (false≢true e), λ h. absurd h)
matches_decides (p ∷ t) (v ∷ u) = (
  λ e. let both = and_parts (admits p v) (matches t u) e in ((admits_decides p v).0 both.0, (matches_decides t u).0 both.1),
  λ h. and_from (admits p v) (matches t u) ((admits_decides p v).1 h.0) ((matches_decides t u).1 h.1),
)

-- the fronts of one length more match where the places behind do and the fronts before them
pub front_matches : (t : List Place) (u : List Value) (n : ℕ) (p : Place) (v : Value) → n < length t → n < length u
    → matches (take (n + 1) t) (take (n + 1) u) ≡ (admits (get_or t n p) (get_or u n v) && matches (take n t) (take n u))
front_matches t u n p v in_t in_u =
    ap (λ xs. matches xs (take (n + 1) u)) (take_more t n p in_t)
    ∙ ap (λ ys. matches (take n t ++ get_or t n p ∷ []) ys) (take_more u n v in_u)
    ∙ one_behind admits (take n t) (take n u) (get_or t n p) (get_or u n v)

-- where the fronts of length n decide, the test of the last place of them or the fronts one shorter do
module _ (t : List Place) (u : List Value) (n : ℕ) (p : Place) (v : Value) (some : 0 < n) (in_t : n ≤ length t) (long : length t ≡ length u)
    (left : matches t u ≡ matches (take n t) (take n u)) (place : p ≡ get_or t (n - 1) p) (value : v ≡ get_or u (n - 1) v) where
  tested : matches t u ≡ (admits p v && matches (take (n - 1) t) (take (n - 1) u))
  tested =
      let back : n ≡ (n - 1) + 1 = omega (arith, some) in
      left ∙ ap (λ k. matches (take k t) (take k u)) back
      ∙ front_matches t u (n - 1) p v (omega (arith, some, in_t)) (omega (arith, some, in_t, long))
      ∙ ap (λ q. admits q (get_or u (n - 1) v) && matches (take (n - 1) t) (take (n - 1) u)) (sym place)
      ∙ ap (λ w. admits p w && matches (take (n - 1) t) (take (n - 1) u)) (sym value)

  pub still_decides : true ≡ admits p v → matches t u ≡ matches (take (n - 1) t) (take (n - 1) u)
  still_decides e = tested ∙ ap (λ b. b && matches (take (n - 1) t) (take (n - 1) u)) (sym e)

  pub told_apart : false ≡ admits p v → false ≡ matches t u
  told_apart e = sym (tested ∙ ap (λ b. b && matches (take (n - 1) t) (take (n - 1) u)) (sym e))

-- what the test says, said as the relation
pub as_relation : (b : Bool) (t : List Place) (u : List Value) → b ≡ matches t u → IsTrue b ↔ Matches t u
as_relation true t u e = (λ _. (matches_decides t u).0 (sym e), λ _. refl)
as_relation false t u e = (λ never. absurd (false≢true never), λ h. absurd (false≢true (e ∙ (matches_decides t u).1 h)))

pub other_lengths : (t : List Place) (u : List Value) → (length t ≡ length u → ⊥) → false ≡ matches t u
other_lengths t u apart = sym (unequal admits t u apart)

pub none_untested : (t : List Place) (u : List Value) (n : ℕ) → n ≤ 0 → matches t u ≡ matches (take n t) (take n u) → true ≡ matches t u
none_untested t u n none left =
    let done : n ≡ 0 = omega (arith, none) in
    sym (left ∙ ap (λ k. matches (take k t) (take k u)) done)
