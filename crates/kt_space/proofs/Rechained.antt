-- Chains stay chains where a place is taken out, and where one is put behind all others.
-- Cited by Tables.
use Rattle.std.proofs.Common.{◌≡◌, ◌≢◌, ℕ, suc, ◌<◌, List, [], ◌∷◌, ◌++◌, length, set, Option, None, Some, sym, ap, subst, arith, ◌⊎◌, inl, inr}
use Rattle.std.proofs.lemmas.Option.{none-some, same_Some}
use Rattle.kt_space.specs.auxiliary.Chaining.{Has, Beside, IsIn, AreChains}
use Rattle.kt_space.proofs.Beside.{one_group, decide, decide_at, one_before, one_after}
use Rattle.kt_space.proofs.Stays.{kept_has, stays_out, joins, pushed_has, stays_in, comes_last, is_last}

both : (h g : ℕ) (c a : Option ℕ) → ((h ≡ g) × (c ≡ a)) ⊎ (h ≡ g → c ≡ a → ⊥)
both h g c a = elim (decide h g) [
  | inl e ↦ elim (decide_at c a) [ inl i ↦ inl (e, i) | inr n ↦ inr (λ _ i. n i) ]
  | inr n ↦ inr (λ e _. n e)
]

-- a place r of the group g is taken out, and what stood beside it is linked
pub unlinked : (gs : List (Option ℕ)) (count r g : ℕ) (after before after' before' : ℕ → Option ℕ → Option ℕ)
    → AreChains gs count after before → Has gs r g
    → (IsIn gs count g (before g (Some r)) → after' g (before g (Some r)) ≡ after g (Some r))
    → ((h : ℕ) (c : Option ℕ) → IsIn gs count h c → (h ≡ g → c ≡ before g (Some r) → ⊥) → after' h c ≡ after h c)
    → (IsIn gs count g (after g (Some r)) → before' g (after g (Some r)) ≡ before g (Some r))
    → ((h : ℕ) (c : Option ℕ) → IsIn gs count h c → (h ≡ g → c ≡ after g (Some r) → ⊥) → before' h c ≡ before h c)
    → AreChains (set gs r None) count after' before'
unlinked gs count r g after before after' before' chains has hit miss hit' miss' = record {
  known = λ m h in_. chains.known m h (kept_has gs r m h in_).0;
  forth = λ h c in_. forth h c (was h c in_) (both h g c (before g (Some r)));
  back = λ h c in_. back h c (was h c in_) (both h g c (after g (Some r)));
}
  where
    was : (h : ℕ) (c : Option ℕ) → IsIn (set gs r None) count h c → IsIn gs count h c × (c ≢ Some r)
    was h None in_ = (in_, λ e. none-some r e)
    was h (Some i) in_ = ((kept_has gs r i h in_).0, λ e. (kept_has gs r i h in_).1 (same_Some i r e))

    of_g : (h : ℕ) → Has gs r h → h ≡ g
    of_g h there = one_group gs r h g there has

    forth : (h : ℕ) (c : Option ℕ) → IsIn gs count h c × (c ≢ Some r) → ((h ≡ g) × (c ≡ before g (Some r))) ⊎ (h ≡ g → c ≡ before g (Some r) → ⊥)
        → Beside (set gs r None) h c (after' h c)
    forth h c in_ (inl e) =
        let there : IsIn gs count g (before g (Some r)) = subst (λ d. IsIn gs count g d) e.1 (subst (λ k. IsIn gs count k c) e.0 in_.0) in
        let done : Beside (set gs r None) g (before g (Some r)) (after' g (before g (Some r))) =
        subst (λ d. Beside (set gs r None) g (before g (Some r)) d) (sym (hit there))
        (joins gs r g (before g (Some r)) (after g (Some r)) (chains.back g (Some r) has) (chains.forth g (Some r) has)) in
        subst (λ k. Beside (set gs r None) k c (after' k c)) (sym e.0)
        (subst (λ d. Beside (set gs r None) g d (after' g d)) (sym e.1) done)
    forth h c in_ (inr n) =
        let here : Beside gs h c (after h c) = chains.forth h c in_.0 in
        subst (λ d. Beside (set gs r None) h c d) (sym (miss h c in_.0 n))
        (stays_out gs r h c (after h c) here in_.1 (λ e. other (subst (λ d. Beside gs h c d) e here)))
      where
        other : Beside gs h c (Some r) → ⊥
        other x = let is : h ≡ g = of_g h x.ends in
            n is (one_before gs g c (before g (Some r)) (Some r) (subst (λ k. Beside gs k c (Some r)) is x) (chains.back g (Some r) has))

    back : (h : ℕ) (c : Option ℕ) → IsIn gs count h c × (c ≢ Some r) → ((h ≡ g) × (c ≡ after g (Some r))) ⊎ (h ≡ g → c ≡ after g (Some r) → ⊥)
        → Beside (set gs r None) h (before' h c) c
    back h c in_ (inl e) =
        let there : IsIn gs count g (after g (Some r)) = subst (λ d. IsIn gs count g d) e.1 (subst (λ k. IsIn gs count k c) e.0 in_.0) in
        let done : Beside (set gs r None) g (before' g (after g (Some r))) (after g (Some r)) =
        subst (λ d. Beside (set gs r None) g d (after g (Some r))) (sym (hit' there))
        (joins gs r g (before g (Some r)) (after g (Some r)) (chains.back g (Some r) has) (chains.forth g (Some r) has)) in
        subst (λ k. Beside (set gs r None) k (before' k c) c) (sym e.0)
        (subst (λ d. Beside (set gs r None) g (before' g d) d) (sym e.1) done)
    back h c in_ (inr n) =
        let here : Beside gs h (before h c) c = chains.back h c in_.0 in
        subst (λ d. Beside (set gs r None) h d c) (sym (miss' h c in_.0 n))
        (stays_out gs r h (before h c) c here (λ e. other (subst (λ d. Beside gs h d c) e here)) in_.1)
      where
        other : Beside gs h (Some r) c → ⊥
        other x = let is : h ≡ g = of_g h x.starts in
            n is (one_after gs g (Some r) c (after g (Some r)) (subst (λ k. Beside gs k (Some r) c) is x) (chains.forth g (Some r) has))

-- a place is put behind all others, in the group g
pub pushed : (gs : List (Option ℕ)) (count g : ℕ) (after before after' before' : ℕ → Option ℕ → Option ℕ)
    → AreChains gs count after before → g < count
    → (IsIn gs count g (before g None) → after' g (before g None) ≡ Some (length gs))
    → ((h : ℕ) (c : Option ℕ) → IsIn gs count h c → (h ≡ g → c ≡ before g None → ⊥) → after' h c ≡ after h c)
    → (after' g (Some (length gs)) ≡ None)
    → (before' g None ≡ Some (length gs))
    → ((h : ℕ) (c : Option ℕ) → IsIn gs count h c → (h ≡ g → c ≡ None → ⊥) → before' h c ≡ before h c)
    → (before' g (Some (length gs)) ≡ before g None)
    → AreChains (gs ++ Some g ∷ []) count after' before'
pushed gs count g after before after' before' chains lt hit miss new hit' miss' new' = record {
  known = λ m h has. known m h (pushed_has gs g m h has);
  forth = λ h c in_. forth h c (was h c in_);
  back = λ h c in_. back h c (was h c in_);
}
  where
    more : List (Option ℕ)
    more = gs ++ Some g ∷ []

    known : (m h : ℕ) → Has gs m h ⊎ ((m ≡ length gs) × (g ≡ h)) → h < count
    known m h (inl has) = chains.known m h has
    known m h (inr e) = subst (λ k. k < count) e.1 lt

    was : (h : ℕ) (c : Option ℕ) → IsIn (gs ++ Some g ∷ []) count h c → IsIn gs count h c ⊎ ((c ≡ Some (length gs)) × (g ≡ h))
    was h None in_ = inl in_
    was h (Some i) in_ = elim (pushed_has gs g i h in_) [ inl x ↦ inl x | inr e ↦ inr (ap Some e.0, e.1) ]

    end : Beside gs g (before g None) None
    end = chains.back g None lt

    forth : (h : ℕ) (c : Option ℕ) → IsIn gs count h c ⊎ ((c ≡ Some (length gs)) × (g ≡ h)) → Beside (gs ++ Some g ∷ []) h c (after' h c)
    forth h c (inl in_) = by (both h g c (before g None))
      where
        by : ((h ≡ g) × (c ≡ before g None)) ⊎ (h ≡ g → c ≡ before g None → ⊥) → Beside (gs ++ Some g ∷ []) h c (after' h c)
        by (inl e) =
            let there : IsIn gs count g (before g None) = subst (λ d. IsIn gs count g d) e.1 (subst (λ k. IsIn gs count k c) e.0 in_) in
            let done : Beside (gs ++ Some g ∷ []) g (before g None) (after' g (before g None)) =
            subst (λ d. Beside (gs ++ Some g ∷ []) g (before g None) d) (sym (hit there)) (comes_last gs g (before g None) (chains.back g None lt)) in
            subst (λ k. Beside (gs ++ Some g ∷ []) k c (after' k c)) (sym e.0)
            (subst (λ d. Beside (gs ++ Some g ∷ []) g d (after' g d)) (sym e.1) done)
        by (inr n) =
            let here : Beside gs h c (after h c) = chains.forth h c in_ in
            subst (λ d. Beside (gs ++ Some g ∷ []) h c d) (sym (miss h c in_ n))
            (stays_in gs g h c (after h c) here (λ is none. last is (subst (λ d. Beside gs h c d) none here)))
          where
            last : g ≡ h → Beside gs h c None → ⊥
            last is x = n (sym is) (one_before gs g c (before g None) None (subst (λ k. Beside gs k c None) (sym is) x) (chains.back g None lt))
    forth h c (inr e) =
        let done : Beside (gs ++ Some g ∷ []) g (Some (length gs)) (after' g (Some (length gs))) =
        subst (λ d. Beside (gs ++ Some g ∷ []) g (Some (length gs)) d) (sym new) (is_last gs g) in
        subst (λ k. Beside (gs ++ Some g ∷ []) k c (after' k c)) e.1
        (subst (λ d. Beside (gs ++ Some g ∷ []) g d (after' g d)) (sym e.0) done)

    back : (h : ℕ) (c : Option ℕ) → IsIn gs count h c ⊎ ((c ≡ Some (length gs)) × (g ≡ h)) → Beside (gs ++ Some g ∷ []) h (before' h c) c
    back h c (inl in_) = by (both h g c None)
      where
        by : ((h ≡ g) × (c ≡ None)) ⊎ (h ≡ g → c ≡ None → ⊥) → Beside (gs ++ Some g ∷ []) h (before' h c) c
        by (inl e) =
            let done : Beside (gs ++ Some g ∷ []) g (before' g None) None =
            subst (λ d. Beside (gs ++ Some g ∷ []) g d None) (sym hit') (is_last gs g) in
            subst (λ k. Beside (gs ++ Some g ∷ []) k (before' k c) c) (sym e.0)
            (subst (λ d. Beside (gs ++ Some g ∷ []) g (before' g d) d) (sym e.1) done)
        by (inr n) =
            subst (λ d. Beside (gs ++ Some g ∷ []) h d c) (sym (miss' h c in_ n))
            (stays_in gs g h (before h c) c (chains.back h c in_) (λ is none. n (sym is) none))
    back h c (inr e) =
        let done : Beside (gs ++ Some g ∷ []) g (before' g (Some (length gs))) (Some (length gs)) =
        subst (λ d. Beside (gs ++ Some g ∷ []) g d (Some (length gs))) (sym new') (comes_last gs g (before g None) (chains.back g None lt)) in
        subst (λ k. Beside (gs ++ Some g ∷ []) k (before' k c) c) e.1
        (subst (λ d. Beside (gs ++ Some g ∷ []) g (before' g d) d) (sym e.0) done)

-- one group more, of which there is no place
pub grown : (gs : List (Option ℕ)) (count : ℕ) (after before after' before' : ℕ → Option ℕ → Option ℕ)
    → AreChains gs count after before
    → ((h : ℕ) (c : Option ℕ) → IsIn gs count h c → after' h c ≡ after h c)
    → ((h : ℕ) (c : Option ℕ) → IsIn gs count h c → before' h c ≡ before h c)
    → (after' count None ≡ None) → (before' count None ≡ None)
    → AreChains gs (suc count) after' before'
grown gs count after before after' before' chains same same' new new' = record {
  known = λ m h has. let lt : h < count = chains.known m h has in omega arith;
  forth = forth;
  back = back;
}
  where
    empty : Beside gs count None None
    empty = record { starts = tt; ends = tt; apart = tt; between = λ m has above below. let lt : count < count = chains.known m count has in omega arith }

    forth : (h : ℕ) (c : Option ℕ) → IsIn gs (suc count) h c → Beside gs h c (after' h c)
    forth h (Some i) in_ = subst (λ d. Beside gs h (Some i) d) (sym (same h (Some i) in_)) (chains.forth h (Some i) in_)
    forth h None in_ = elim (decide h count) [
      | inl e ↦ subst (λ k. Beside gs k None (after' k None)) (sym e) (subst (λ d. Beside gs count None d) (sym new) empty)
      | inr n ↦ let lt : h < count = omega (arith, n, in_) in subst (λ d. Beside gs h None d) (sym (same h None lt)) (chains.forth h None lt)
    ]

    back : (h : ℕ) (c : Option ℕ) → IsIn gs (suc count) h c → Beside gs h (before' h c) c
    back h (Some i) in_ = subst (λ d. Beside gs h d (Some i)) (sym (same' h (Some i) in_)) (chains.back h (Some i) in_)
    back h None in_ = elim (decide h count) [
      | inl e ↦ subst (λ k. Beside gs k (before' k None) None) (sym e) (subst (λ d. Beside gs count d None) (sym new') empty)
      | inr n ↦ let lt : h < count = omega (arith, n, in_) in subst (λ d. Beside gs h d None) (sym (same' h None lt)) (chains.back h None lt)
    ]
