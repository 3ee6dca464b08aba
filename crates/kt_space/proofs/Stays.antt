-- Chains with a place put behind all others, and with a place taken out.
-- Cited by Numbered, Rechained.
use Rattle.std.proofs.Common.{◌≡◌, ◌≢◌, ℕ, zero, suc, ◌<◌, ◌≤◌, List, [], ◌∷◌, ◌++◌, length, set}
use Rattle.std.proofs.Common.{Option, None, Some, refl, sym, ap, subst, ◌∙◌, arith, ◌⊎◌, inl, inr}
use Rattle.std.proofs.lemmas.Option.{none-some, same_Some, slice_get_within}
use Rattle.kt_space.specs.auxiliary.Chaining.{Has, Fits, IsAfter, IsBefore, IsApart, Beside}
use Rattle.kt_space.proofs.Beside.{read_pushed, read_before, read_other, decide}

-- taking a place out
module _ {A : Type 0} (gs : List (Option A)) (r : ℕ) where
  pub kept_has : (m : ℕ) (h : A) → Has (set gs r None) m h → Has gs m h × (m ≢ r)
  kept_has m h has = elim (decide m r) [
    | inl e ↦ let there : r < length (set gs r None) = subst (λ i. i < length (set gs r None)) e (slice_get_within (set gs r None) m (Some h) has) in absurd
        (gone h (subst (λ i. Has (set gs r None) i h) e has))
    | inr n ↦ (sym (read_other gs r m None n) ∙ has, n)
  ]
    where
      gone_in : (xs : List (Option A)) (i : ℕ) (h : A) → Has (set xs i None) i h → ⊥
      gone_in [] i h e = none-some (Some h) e
      gone_in (x ∷ xs) zero h e = none-some h (same_Some None (Some h) e)
      gone_in (x ∷ xs) (suc i) h e = gone_in xs i h e

      gone : (h : A) → Has (set gs r None) r h → ⊥
      gone h e = gone_in gs r h e

  pub keeps_has : (m : ℕ) (h : A) → Has gs m h → m ≢ r → Has (set gs r None) m h
  keeps_has m h has n = read_other gs r m None n ∙ has

  keeps_fits : (h : A) (c : Option ℕ) → Fits gs h c → c ≢ Some r → Fits (set gs r None) h c
  keeps_fits h None f n = tt
  keeps_fits h (Some i) f n = keeps_has i h f (λ e. n (ap Some e))

  -- what is not beside it stays
  pub stays_out : (h : A) (c d : Option ℕ) → Beside gs h c d → c ≢ Some r → d ≢ Some r → Beside (set gs r None) h c d
  stays_out h c d x nc nd = record {
    starts = keeps_fits h c x.starts nc;
    ends = keeps_fits h d x.ends nd;
    apart = x.apart;
    between = λ m has. x.between m (kept_has m h has).0;
  }

  -- what is beside it on both sides is beside each other then
  pub joins : (g : A) (a b : Option ℕ) → Beside gs g a (Some r) → Beside gs g (Some r) b → Beside (set gs r None) g a b
  joins g a b x y = record {
    starts = keeps_fits g a x.starts (before a x.apart);
    ends = keeps_fits g b y.ends (behind b y.apart);
    apart = apart a b x.apart y.apart;
    between = λ m has above below. at m above below (kept_has m g has);
  }
    where
      before : (c : Option ℕ) → IsApart c (Some r) → c ≢ Some r
      before None h e = none-some r e
      before (Some i) h e = let same : i ≡ r = same_Some i r e in omega arith

      behind : (c : Option ℕ) → IsApart (Some r) c → c ≢ Some r
      behind None h e = none-some r e
      behind (Some i) h e = let same : i ≡ r = same_Some i r e in omega arith

      apart : (c d : Option ℕ) → IsApart c (Some r) → IsApart (Some r) d → IsApart c d
      apart None d h k = tt
      apart (Some i) None h k = tt
      apart (Some i) (Some j) h k = omega arith

      order : (m : ℕ) → m ≢ r → (m < r) ⊎ (r < m)
      order m n = elim (decide_less m r) [ inl l ↦ inl l | inr l ↦ inr (omega (arith, n)) ]
        where
          decide_less : (m r : ℕ) → (m < r) ⊎ (r ≤ m)
          decide_less m zero = inr (omega arith)
          decide_less zero (suc r) = inl (omega arith)
          decide_less (suc m) (suc r) = elim (decide_less m r) [ inl l ↦ inl (omega arith) | inr l ↦ inr (omega arith) ]

      at : (m : ℕ) → IsAfter m a → IsBefore m b → Has gs m g × (m ≢ r) → ⊥
      at m above below has = elim (order m has.1) [
        | inl l ↦ x.between m has.0 above l
        | inr l ↦ y.between m has.0 l below
      ]

-- a place more behind all others
module _ {A : Type 0} (gs : List (Option A)) (g : A) where
  pub pushed_has : (m : ℕ) (h : A) → Has (gs ++ Some g ∷ []) m h → Has gs m h ⊎ ((m ≡ length gs) × (g ≡ h))
  pushed_has m h has = elim (decide m (length gs)) [
    | inl e ↦ inr (e, same_Some g h (same_Some (Some g) (Some h) (sym (read_pushed gs (Some g)) ∙ subst (λ i. Has (gs ++ Some g ∷ []) i h) e has)))
    | inr n ↦ inl (sym (read_before gs (Some g) m (less m n (slice_get_within (gs ++ Some g ∷ []) m (Some h) has))) ∙ has)
  ]
    where
      less : (m : ℕ) → m ≢ length gs → m < length (gs ++ Some g ∷ []) → m < length gs
      less m n lt = omega (arith, n, size gs)
        where
          size : (xs : List (Option A)) → length (xs ++ Some g ∷ []) ≡ suc (length xs)
          size [] = refl
          size (x ∷ xs) = ap suc (size xs)

  pub more_has : (m : ℕ) (h : A) → Has gs m h → Has (gs ++ Some g ∷ []) m h
  more_has m h has = read_before gs (Some g) m (slice_get_within gs m (Some h) has) ∙ has

  more_fits : (h : A) (c : Option ℕ) → Fits gs h c → Fits (gs ++ Some g ∷ []) h c
  more_fits h None f = tt
  more_fits h (Some i) f = more_has i h f

  -- what is not at the end of the group's chain stays
  pub stays_in : (h : A) (c d : Option ℕ) → Beside gs h c d → (g ≡ h → d ≡ None → ⊥) → Beside (gs ++ Some g ∷ []) h c d
  stays_in h c d x other = record {
    starts = more_fits h c x.starts;
    ends = more_fits h d x.ends;
    apart = x.apart;
    between = λ m has above below. at m above (pushed_has m h has) d x.ends other below (x.between m);
  }
    where
      at : (m : ℕ) → IsAfter m c → Has gs m h ⊎ ((m ≡ length gs) × (g ≡ h)) → (d : Option ℕ) → Fits gs h d → (g ≡ h → d ≡ None → ⊥) → IsBefore m d
          → (Has gs m h → IsAfter m c → IsBefore m d → ⊥) → ⊥
      at m above (inl has) d f o below none = none has above below
      at m above (inr e) None f o below none = o e.1 refl
      at m above (inr e) (Some j) f o below none =
          let within : j < length gs = slice_get_within gs j (Some h) f in let is : m ≡ length gs = e.0 in omega arith

  -- the place stands between the end of the chain so far and its end now
  pub comes_last : (a : Option ℕ) → Beside gs g a None → Beside (gs ++ Some g ∷ []) g a (Some (length gs))
  comes_last a x = record {
    starts = more_fits g a x.starts;
    ends = read_pushed gs (Some g);
    apart = apart a x.starts;
    between = λ m has above below. at m above below (pushed_has m g has);
  }
    where
      apart : (c : Option ℕ) → Fits gs g c → IsApart c (Some (length gs))
      apart None f = tt
      apart (Some i) f = slice_get_within gs i (Some g) f

      at : (m : ℕ) → IsAfter m a → m < length gs → Has gs m g ⊎ ((m ≡ length gs) × (g ≡ g)) → ⊥
      at m above below (inl has) = x.between m has above tt
      at m above below (inr e) = let is : m ≡ length gs = e.0 in omega arith

  pub is_last : Beside (gs ++ Some g ∷ []) g (Some (length gs)) None
  is_last = record {
    starts = read_pushed gs (Some g);
    ends = tt;
    apart = tt;
    between = λ m has above below. at m above (pushed_has m g has);
  }
    where
      at : (m : ℕ) → length gs < m → Has gs m g ⊎ ((m ≡ length gs) × (g ≡ g)) → ⊥
      at m above (inl has) = let within : m < length gs = slice_get_within gs m (Some g) has in omega arith
      at m above (inr e) = let is : m ≡ length gs = e.0 in omega arith
