-- How many of the first slots' tuples pass a test, slot by slot.
-- Cited by Bags, Searched.
use Rattle.std.proofs.Common.{◌≡◌, ℕ, zero, suc, ◌+◌, ◌<◌, ◌≤◌, Bool, true, false, cond, List, [], ◌∷◌}
use Rattle.std.proofs.Common.{length, filter, take, Option, None, Some, refl, sym, ap, ◌∙◌, arith, ◌⊎◌, inl, inr}
use Rattle.std.specs.List.{slice_get}
use Rattle.std.proofs.lemmas.List.{take_all}
use Rattle.std.proofs.lemmas.Option.{none-some, same_Some}
use Rattle.kt_tuple.specs.declared.tuple.Tuple.{Tuple}
use Rattle.kt_space.specs.auxiliary.Slots.{filled, passing}
use Rattle.kt_space.proofs.Beside.{decide}

abbrev pub hit : (Tuple → Bool) → Option Tuple → ℕ
hit test None = 0
hit test (Some u) = cond (test u) 1 0

module _ (test : Tuple → Bool) where
  head : (s : Option Tuple) (slots : List (Option Tuple)) (n : ℕ) → passing test (s ∷ slots) (suc n) ≡ hit test s + passing test slots n
  head None slots n = omega arith
  head (Some u) slots n = by (test u)
    where
      by : (r : Bool) → length (cond r (u ∷ filter test (filled (take n slots))) (filter test (filled (take n slots)))) ≡ cond r 1 0 + length (filter test
          (filled (take n slots)))
      by true = omega arith
      by false = omega arith

  -- one slot more
  pub step : (slots : List (Option Tuple)) (n : ℕ) (s : Option Tuple) → slice_get slots n ≡ Some s
      → passing test slots (suc n) ≡ hit test s + passing test slots n
  step [] n s at = absurd (none-some s at)
  step (x ∷ slots) zero s at = head x slots zero ∙ ap (λ o. hit test o + 0) (same_Some x s at)
  step (x ∷ slots) (suc n) s at = let h1 = head x slots (suc n) in let h2 = head x slots n in let h3 = step slots n s at in omega (arith, h1, h2, h3)

  past : (slots : List (Option Tuple)) (n : ℕ) → length slots ≤ n → passing test slots (suc n) ≡ passing test slots n
  past slots n le = ap (λ l. length (filter test (filled l))) (take_all (suc n) slots (omega arith) ∙ sym (take_all n slots le))

  pub whole : (slots : List (Option Tuple)) (n : ℕ) → length slots ≤ n → passing test slots n ≡ length (filter test (filled slots))
  whole slots n le = ap (λ l. length (filter test (filled l))) (take_all n slots le)

  inside : (slots : List (Option Tuple)) (n : ℕ) → ((s : Option Tuple) × (slice_get slots n ≡ Some s)) ⊎ (length slots ≤ n)
  inside [] n = inr (omega arith)
  inside (x ∷ slots) zero = inl (x, refl)
  inside (x ∷ slots) (suc n) = elim (inside slots n) [ inl h ↦ inl h | inr le ↦ inr (omega arith) ]

  -- no slot that passes, no more
  pub gap : (slots : List (Option Tuple)) (i j : ℕ) → i ≤ j
      → ((m : ℕ) (u : Tuple) → i ≤ m → m < j → slice_get slots m ≡ Some (Some u) → test u ≡ false) → passing test slots j ≡ passing test slots i
  gap slots i zero le none = let is : i ≡ 0 = omega arith in ap (passing test slots) (sym is)
  gap slots i (suc j) le none = elim (decide i (suc j)) [
    | inl e ↦ ap (passing test slots) (sym e)
    | inr n ↦ let before : i ≤ j = omega (arith, n) in
        elim (inside slots j) [
          | inl h ↦ step slots j h.0 h.1 ∙ ap (λ k. k + passing test slots j) (no_hit h.0 (λ u is. none j u before (omega arith) (h.1 ∙ ap Some is)))
              ∙ zero-more (passing test slots j) ∙ gap slots i j before (λ m u from to. none m u from (omega arith))
          | inr past_end ↦ past slots j past_end ∙ gap slots i j before (λ m u from to. none m u from (omega arith))
        ]
  ]
    where
      zero-more : (n : ℕ) → 0 + n ≡ n
      zero-more n = omega arith

      no_hit : (s : Option Tuple) → ((u : Tuple) → s ≡ Some u → test u ≡ false) → hit test s ≡ 0
      no_hit None f = refl
      no_hit (Some u) f = ap (λ b. cond b 1 0) (f u refl)

  -- and never less
  pub mono : (slots : List (Option Tuple)) (i j : ℕ) → i ≤ j → passing test slots i ≤ passing test slots j
  mono slots i zero le = let is : i ≡ 0 = omega arith in let same : passing test slots i ≡ passing test slots 0 = ap (passing test slots) is in omega arith
  mono slots i (suc j) le = elim (decide i (suc j)) [
    | inl e ↦ let same : passing test slots i ≡ passing test slots (suc j) = ap (passing test slots) e in omega arith
    | inr n ↦ let before : i ≤ j = omega (arith, n) in
        let rest = mono slots i j before in
        elim (inside slots j) [
          | inl h ↦ let one = step slots j h.0 h.1 in omega (arith, one, rest)
          | inr past_end ↦ let same = past slots j past_end in omega (arith, same, rest)
        ]
  ]

  -- and at most one a slot
  pub at_most : (slots : List (Option Tuple)) (n : ℕ) → passing test slots n ≤ n
  at_most slots zero = omega arith
  at_most slots (suc n) =
      let rest = at_most slots n in
      elim (inside slots n) [
        | inl h ↦ let one = step slots n h.0 h.1 in let few = hit_one h.0 in omega (arith, one, few, rest)
        | inr past_end ↦ let same = past slots n past_end in omega (arith, same, rest)
      ]
    where
      hit_one : (s : Option Tuple) → hit test s ≤ 1
      hit_one None = omega arith
      hit_one (Some u) = by (test u)
        where
          by : (r : Bool) → cond r 1 0 ≤ 1
          by true = omega arith
          by false = omega arith

  pub hit_true : (u : Tuple) → test u ≡ true → hit test (Some u) ≡ 1
  hit_true u e = ap (λ b. cond b 1 0) e

  pub hit_false : (u : Tuple) → test u ≡ false → hit test (Some u) ≡ 0
  hit_false u e = ap (λ b. cond b 1 0) e
