-- The shares of all shards together are the whole space.
-- Cited by other crates.
use Rattle.std.proofs.Common.{◌≡◌, ℕ, zero, suc, ◌+◌, ◌<◌, ◌≤◌, true, cond, List, [], ◌∷◌, ◌++◌, filter, Contains}
use Rattle.std.proofs.Common.{IsPermutation, inl, inr, refl, sym, ap, ◌∙◌, subst, eqb, eq-eqb, ne_eqb, mod-lt, arith}
use Rattle.std.specs.List.{flat_map, range_with_len}
use Rattle.std.proofs.lemmas.Bool.{cases_eq}
use Rattle.std.proofs.lemmas.List.Sorted.{IsPermutation-refl, IsPermutation-trans, IsPermutation-cons}
use Rattle.std.proofs.lemmas.List.Sorted.{IsPermutation-append, IsPermutation-append_right, IsPermutation-middle}
use Rattle.kt_tuple.specs.declared.tuple.Tuple.{Tuple}
use Rattle.kt_tuple.specs.Signature.{kinds_of, signature_of}
use Rattle.kt_history.proofs.Shared.{Contains-here, Contains-none}
use Rattle.kt_logs.proofs.Bags.{Contains-there, Contains-cases}
use Rattle.kt_logs.proofs.Homes.{home_of, is_home}

-- the lists at these numbers, with u put in front of the one at k
abbrev with_one : (ℕ → List Tuple) → Tuple → ℕ → ℕ → List Tuple
with_one g u k r = cond (eqb k r) (u ∷ g r) (g r)

none_in : (g : ℕ → List Tuple) (u : Tuple) (k a m : ℕ) → k < a → flat_map (with_one g u k) (range_with_len a m) ≡ flat_map g (range_with_len a m)
none_in g u k a zero below = refl
none_in g u k a (suc m) below =
    let off : with_one g u k a ≡ g a = ap (λ b. cond b (u ∷ g a) (g a)) (ne_eqb k a (λ e. omega (arith, below, e))) in
    ap (λ l. l ++ flat_map (with_one g u k) (range_with_len (a + 1) m)) off ∙ ap (λ l. g a ++ l) (none_in g u k (a + 1) m (omega (arith, below)))

one_in : (g : ℕ → List Tuple) (u : Tuple) (k a m : ℕ) → a ≤ k → k < a + m
    → IsPermutation (flat_map (with_one g u k) (range_with_len a m)) (u ∷ flat_map g (range_with_len a m))
one_in g u k a zero from below = absurd (omega (arith, from, below))
one_in g u k a (suc m) from below = elim (cases_eq k a) [
  | inl e ↦
      let here : with_one g u k a ≡ u ∷ g a = ap (λ b. cond b (u ∷ g a) (g a)) (eq-eqb k a e) in
      let rest : flat_map (with_one g u k) (range_with_len (a + 1) m) ≡ flat_map g (range_with_len (a + 1) m) = none_in g u k (a + 1) m (omega (arith, e)) in
      subst (λ l. IsPermutation (l ++ flat_map (with_one g u k) (range_with_len (a + 1) m)) (u ∷ flat_map g (range_with_len a (suc m)))) (sym here)
      (subst (λ l. IsPermutation (u ∷ (g a ++ l)) (u ∷ flat_map g (range_with_len a (suc m)))) (sym rest)
      (IsPermutation-refl (u ∷ flat_map g (range_with_len a (suc m)))))
  | inr d ↦
      let off : with_one g u k a ≡ g a = ap (λ b. cond b (u ∷ g a) (g a)) (ne_eqb k a d) in
      let rest = one_in g u k (a + 1) m (omega (arith, from, d)) (omega (arith, below)) in
      subst (λ l. IsPermutation (l ++ flat_map (with_one g u k) (range_with_len (a + 1) m)) (u ∷ flat_map g (range_with_len a (suc m)))) (sym off)
      (IsPermutation-trans (g a ++ flat_map (with_one g u k) (range_with_len (a + 1) m)) (g a ++ u ∷ flat_map g (range_with_len (a + 1) m))
      (u ∷ (g a ++ flat_map g (range_with_len (a + 1) m)))
      (IsPermutation-append_right (g a) (flat_map (with_one g u k) (range_with_len (a + 1) m)) (u ∷ flat_map g (range_with_len (a + 1) m)) rest)
      (IsPermutation-middle (g a) u (flat_map g (range_with_len (a + 1) m))))
]

-- the shares of all shards are the whole
abbrev pub shares : ℕ → List Tuple → List Tuple
shares n all = flat_map (λ r. filter (is_home n r) all) (range_with_len 1 n)

none_at_all : (ks : List ℕ) → flat_map (λ (r : ℕ). filter {X = Tuple} (λ u. true) []) ks ≡ []
none_at_all [] = refl
none_at_all (k ∷ ks) = none_at_all ks

pub shares-whole : (n : ℕ) → 1 ≤ n → (all : List Tuple) → IsPermutation (shares n all) all
shares-whole n some [] = subst (λ l. IsPermutation l []) (sym (none_at_all (range_with_len 1 n))) (IsPermutation-refl [])
shares-whole n some (u ∷ all) =
    let below = mod-lt (signature_of (kinds_of u)) some in
    IsPermutation-trans (shares n (u ∷ all)) (u ∷ shares n all) (u ∷ all)
    (one_in (λ r. filter (is_home n r) all) u (home_of n u) 1 n (omega arith) (omega (arith, below)))
    (IsPermutation-cons u (shares n all) all (shares-whole n some all))

-- lists that differ in order alone, one for each number
pub flat_map-like : (ks : List ℕ) (g h : ℕ → List Tuple) → ((k : ℕ) → Contains ks k → IsPermutation (g k) (h k)) → IsPermutation (flat_map g ks) (flat_map h ks)
flat_map-like [] g h like = IsPermutation-refl []
flat_map-like (k ∷ ks) g h like = IsPermutation-append (g k) (h k) (flat_map g ks) (flat_map h ks) (like k (Contains-here k ks))
    (flat_map-like ks g h (λ j c. like j (Contains-there k j ks c)))

-- the numbers of a range
pub range_within : (a m k : ℕ) → Contains (range_with_len a m) k → (a ≤ k) × (k < a + m)
range_within a zero k c = absurd (Contains-none k c)
range_within a (suc m) k c = elim (Contains-cases a k (range_with_len (a + 1) m) c) [
  | inl e ↦ (omega (arith, e), omega (arith, e))
  | inr there ↦ let r = range_within (a + 1) m k there in (omega (arith, r.0), omega (arith, r.1))
]
