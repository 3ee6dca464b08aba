-- The keys of places, from the numbers of their groups.
-- Cited by `Groups::first`, `Groups::next`, `Groups::push`, `Groups::remove`.
use Rattle.std.proofs.Common.{◌≡◌, ◌≢◌, ℕ, zero, suc, ◌+◌, ◌<◌, max, Bool, true, false, ◌||◌, if◌then◌else◌, List, [], ◌∷◌, ◌++◌}
use Rattle.std.proofs.Common.{length, set, Option, None, Some, refl, sym, ap, subst, ◌∙◌, arith, ◌⊎◌, inl, inr, position, get_or}
use Rattle.std.specs.List.{slice_get, list_any}
use Rattle.std.specs.Option.{option_and_then}
use Rattle.std.specs.Bool.{Decides}
use Rattle.std.proofs.lemmas.Bool.{false≢true}
use Rattle.std.proofs.lemmas.List.Quantifiers.{position-Some}
use Rattle.std.proofs.lemmas.Option.{none-some, same_Some, slice_get_within, slice_get-get_or}
use Rattle.indexmap.specs.IndexSet.{insert_key}
use Rattle.kt_space.specs.auxiliary.Chaining.{Has, Fits, Beside}
use Rattle.kt_space.specs.auxiliary.Grouping.{keys_at, AreNumbers}
use Rattle.kt_space.proofs.Beside.{read_before, decide}
use Rattle.kt_space.proofs.Stays.{pushed_has}

module _ {A : Type 0} (ks : List A) where
  -- a place of a group has the group's key
  pub has_key : (gs : List (Option ℕ)) (m g : ℕ) (k : A) → slice_get ks g ≡ Some k → Has gs m g → Has (keys_at ks gs) m k
  has_key [] m g k at has = absurd (none-some (Some g) has)
  has_key (o ∷ gs) zero g k at has = ap Some (ap (option_and_then (slice_get ks)) (same_Some o (Some g) has) ∙ at)
  has_key (o ∷ gs) (suc m) g k at has = has_key gs m g k at has

  -- and a place with a key is of a group that has it
  pub of_key : (gs : List (Option ℕ)) (m : ℕ) (k : A) → Has (keys_at ks gs) m k → (g : ℕ) × Has gs m g × (slice_get ks g ≡ Some k)
  of_key [] m k has = absurd (none-some (Some k) has)
  of_key (None ∷ gs) zero k has = absurd (none-some k (same_Some None (Some k) has))
  of_key (Some g ∷ gs) zero k has = (g, refl, same_Some (slice_get ks g) (Some k) has)
  of_key (o ∷ gs) (suc m) k has = of_key gs m k has

  pub fits_key : (gs : List (Option ℕ)) (c : Option ℕ) (g : ℕ) (k : A) → slice_get ks g ≡ Some k → Fits gs g c → Fits (keys_at ks gs) k c
  fits_key gs None g k at f = tt
  fits_key gs (Some m) g k at f = has_key gs m g k at f

  -- what stands beside a place in its group stands beside it among the places of its key
  pub beside_key : (gs : List (Option ℕ)) (count : ℕ) → AreNumbers ks gs count → (g : ℕ) (k : A) → slice_get ks g ≡ Some k → (c d : Option ℕ)
      → Beside gs g c d → Beside (keys_at ks gs) k c d
  beside_key gs count numbers g k at c d x = record {
    starts = fits_key gs c g k at x.starts;
    ends = fits_key gs d g k at x.ends;
    apart = x.apart;
    between = λ m has. let h = of_key gs m k has in
        x.between m (subst (Has gs m) (numbers.unique h.0 g k h.2 at) h.1);
  }

  -- where no group has the key, no place has it
  pub no_key : (gs : List (Option ℕ)) (k : A) → ((g : ℕ) → slice_get ks g ≢ Some k) → Beside (keys_at ks gs) k None None
  no_key gs k none = record {
    starts = tt;
    ends = tt;
    apart = tt;
    between = λ m has _ _. let h = of_key gs m k has in none h.0 h.2;
  }

  pub keys_without : (gs : List (Option ℕ)) (i : ℕ) → keys_at ks (set gs i None) ≡ set (keys_at ks gs) i None
  keys_without [] i = refl
  keys_without (g ∷ gs) zero = refl
  keys_without (g ∷ gs) (suc i) = ap (λ l. option_and_then (slice_get ks) g ∷ l) (keys_without gs i)

  pub keys_more : (gs : List (Option ℕ)) (g : ℕ) (k : A) → slice_get ks g ≡ Some k → keys_at ks (gs ++ Some g ∷ []) ≡ keys_at ks gs ++ Some k ∷ []
  keys_more [] g k at = ap (λ o. o ∷ []) at
  keys_more (o ∷ gs) g k at = ap (λ l. option_and_then (slice_get ks) o ∷ l) (keys_more gs g k at)

-- keys that have got one more, or none
module _ {A : Type 0} (eq : A → A → Bool) (same : (a b : A) → Decides (eq a b) (a ≡ b)) where
  pub not_among : (ks : List A) (k : A) → list_any (eq k) ks ≡ false → (g : ℕ) → slice_get ks g ≢ Some k
  not_among [] k none g at = none-some k at
  not_among (x ∷ ks) k none zero at = false≢true (sym (left (eq k x) (list_any (eq k) ks) none) ∙ (same k x).1 (sym (same_Some x k at)))
    where
      left : (a b : Bool) → (a || b) ≡ false → a ≡ false
      left true b e = e
      left false b e = refl
  not_among (x ∷ ks) k none (suc g) at = not_among ks k (right (eq k x) (list_any (eq k) ks) none) g at
    where
      right : (a b : Bool) → (a || b) ≡ false → b ≡ false
      right true b e = absurd (false≢true (sym e))
      right false b e = e

  pub inserted : (ks ks' : List A) (k k' : A) (g count : ℕ) → length ks ≡ count → ((i j : ℕ) (h : A) → slice_get ks i ≡ Some h → slice_get ks j ≡ Some h
      → i ≡ j)
      → ks' ≡ insert_key eq ks k → g < length ks' → slice_get ks' g ≡ Some k' → eq k k' ≡ true
      → (length ks' ≡ max count (g + 1)) × (slice_get ks' g ≡ Some k) × ((i : ℕ) → i < length ks → slice_get ks' i ≡ slice_get ks i)
      × ((i j : ℕ) (h : A) → slice_get ks' i ≡ Some h → slice_get ks' j ≡ Some h → i ≡ j)
  inserted ks ks' k k' g count counted unique is lt at e = by (list_any (eq k) ks) refl is
    where
      key : k' ≡ k
      key = sym ((same k k').0 e)

      by : (r : Bool) → list_any (eq k) ks ≡ r → ks' ≡ (if r then ks else ks ++ k ∷ [])
          → (length ks' ≡ max count (g + 1)) × (slice_get ks' g ≡ Some k) × ((i : ℕ) → i < length ks → slice_get ks' i ≡ slice_get ks i)
          × ((i j : ℕ) (h : A) → slice_get ks' i ≡ Some h → slice_get ks' j ≡ Some h → i ≡ j)
      by true a e = (
        (let l : length ks' ≡ length ks = ap length e in omega (arith, l, counted, lt)),
        at ∙ ap Some key,
        (λ i _. ap (λ l. slice_get l i) e),
        (λ i j h p q. unique i j h (sym (ap (λ l. slice_get l i) e) ∙ p) (sym (ap (λ l. slice_get l j) e) ∙ q)),
      )
      by false a e =
          let size : length ks' ≡ suc (length ks) = ap length e ∙ size_of ks in
          let at_k : slice_get ks' g ≡ Some k = at ∙ ap Some key in
          let old : (i : ℕ) → i < length ks → slice_get ks' i ≡ slice_get ks i = λ i lt. ap (λ l. slice_get l i) e ∙ read_before ks k i lt in
          let last : g ≡ length ks = last_of size at_k old in (
            omega (arith, size, counted, last),
            at_k,
            old,
            (λ i j h p q. once i j h (elim (decide i (length ks)) [ inl x ↦ inl x | inr n ↦ inr (less i h n size p) ]) (elim (decide j (length ks)) [
              | inl x ↦
                  inl x
              | inr n ↦ inr (less j h n size q)
            ])
                old (subst (λ n. slice_get ks' n ≡ Some k) last at_k) p q),
          )
        where
          size_of : (xs : List A) → length (xs ++ k ∷ []) ≡ suc (length xs)
          size_of [] = refl
          size_of (x ∷ xs) = ap suc (size_of xs)

          less : (i : ℕ) (h : A) → i ≢ length ks → length ks' ≡ suc (length ks) → slice_get ks' i ≡ Some h → i < length ks
          less i h n size p = let within : i < length ks' = slice_get_within ks' i h p in omega (arith, n, size, within)

          last_of : length ks' ≡ suc (length ks) → slice_get ks' g ≡ Some k → ((i : ℕ) → i < length ks → slice_get ks' i ≡ slice_get ks i) → g ≡ length ks
          last_of size at_k old = elim (decide g (length ks)) [
            | inl x ↦ x
            | inr n ↦ absurd (not_among ks k a g (sym (old g (less g k n size at_k)) ∙ at_k))
          ]

          once : (i j : ℕ) (h : A) → (i ≡ length ks) ⊎ (i < length ks) → (j ≡ length ks) ⊎ (j < length ks)
              → ((i : ℕ) → i < length ks → slice_get ks' i ≡ slice_get ks i) → slice_get ks' (length ks) ≡ Some k
              → slice_get ks' i ≡ Some h → slice_get ks' j ≡ Some h → i ≡ j
          once i j h (inl x) (inl y) old end p q = x ∙ sym y
          once i j h (inl x) (inr y) old end p q =
              let is : h ≡ k = same_Some h k (sym p ∙ ap (slice_get ks') x ∙ end) in
              absurd (not_among ks k a j (sym (old j y) ∙ q ∙ ap Some is))
          once i j h (inr x) (inl y) old end p q =
              let is : h ≡ k = same_Some h k (sym q ∙ ap (slice_get ks') y ∙ end) in
              absurd (not_among ks k a i (sym (old i x) ∙ p ∙ ap Some is))
          once i j h (inr x) (inr y) old end p q = unique i j h (sym (old i x) ∙ p) (sym (old j y) ∙ q)

-- the keys of places stay where numbers are added
pub keys_kept : {A : Type 0} (ks ks' : List A) (gs : List (Option ℕ)) → ((m g : ℕ) → Has gs m g → g < length ks)
    → ((i : ℕ) → i < length ks → slice_get ks' i ≡ slice_get ks i) → keys_at ks' gs ≡ keys_at ks gs
keys_kept ks ks' [] known old = refl
keys_kept ks ks' (None ∷ gs) known old = ap (λ l. None ∷ l) (keys_kept ks ks' gs (λ m g has. known (suc m) g has) old)
keys_kept ks ks' (Some g ∷ gs) known old =
    ap (λ o. o ∷ keys_at ks' gs) (old g (known zero g refl)) ∙ ap (λ l. slice_get ks g ∷ l) (keys_kept ks ks' gs (λ m g has. known (suc m) g has) old)

-- a place more
pub numbers_more : {A : Type 0} (ks ks' : List A) (gs gs' : List (Option ℕ)) (g count count' : ℕ) → AreNumbers ks gs count
    → length ks' ≡ max count (g + 1) → ((i j : ℕ) (h : A) → slice_get ks' i ≡ Some h → slice_get ks' j ≡ Some h → i ≡ j)
    → gs' ≡ gs ++ Some g ∷ [] → count' ≡ max count (g + 1) → AreNumbers ks' gs' count'
numbers_more ks ks' gs gs' g count count' numbers size unique e n = record {
  counted = size ∙ sym n;
  known = λ m h has. at m h (pushed_has gs g m h (subst (λ l. Has l m h) e has));
  unique = unique;
}
  where
    at : (m h : ℕ) → Has gs m h ⊎ ((m ≡ length gs) × (g ≡ h)) → h < count'
    at m h (inl has) = let lt : h < count = numbers.known m h has in omega (arith, n, lt)
    at m h (inr p) = let is : g ≡ h = p.1 in omega (arith, n, is)

-- where a key's number is not found it has none
pub position_found : {A : Type 0} (eq : A → A → Bool) (same : (a b : A) → Decides (eq a b) (a ≡ b)) (ks : List A) (k : A) (g : ℕ)
    → position (eq k) ks ≡ Some g → slice_get ks g ≡ Some k
position_found eq same ks k g p =
    let h = position-Some (eq k) ks g k p in
    slice_get-get_or ks g k h.0 ∙ ap Some (sym ((same k (get_or ks g k)).0 h.1))
