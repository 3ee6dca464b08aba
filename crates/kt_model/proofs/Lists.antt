-- What holds of each element of a list, of its map, of what is kept of it.
-- Cited by Backs, FirstCut, Good, GoodAsks, Leaves, Newer, Saves; other crates.
use Rattle.std.proofs.Common.{◌≡◌, ℕ, zero, suc, ◌+◌, ◌<◌, ◌≤◌, Bool, true, false, cond, List, [], ◌∷◌, map, filter, length, Contains, refl, ap, arith}
use Rattle.std.specs.List.{AllByRecursion}
use Rattle.kt_history.proofs.Shared.{Contains-here, Contains-there}
use Rattle.kt_state.specs.Labels.{numbers}
use Rattle.kt_logs.proofs.Shared.{all-at}

pub all-from : {A : Type 0} (P : A → Type 0) (xs : List A) → ((x : A) → Contains xs x → P x) → AllByRecursion P xs
all-from P [] h = tt
all-from P (x ∷ xs) h = (h x (Contains-here x xs), all-from P xs (λ y c. h y (Contains-there x xs y c)))

pub all-map : {A B : Type 0} (P : B → Type 0) (f : A → B) (xs : List A) → AllByRecursion (λ x. P (f x)) xs → AllByRecursion P (map f xs)
all-map P f [] h = tt
all-map P f (x ∷ xs) h = (h.0, all-map P f xs h.1)

pub all-filter : {A : Type 0} (P : A → Type 0) (p : A → Bool) (xs : List A) → AllByRecursion P xs → AllByRecursion P (filter p xs)
all-filter P p [] h = tt
all-filter {A} P p (x ∷ xs) h = by (p x) (all-filter P p xs h.1)
  where
    by : (b : Bool) → AllByRecursion P (filter p xs) → AllByRecursion P (cond b (x ∷ filter p xs) (filter p xs))
    by true rest = (h.0, rest)
    by false rest = rest

pub all-through : {A : Type 0} (P Q : A → Type 0) (xs : List A) → ((x : A) → P x → Q x) → AllByRecursion P xs → AllByRecursion Q xs
all-through P Q [] f h = tt
all-through P Q (x ∷ xs) f h = (f x h.0, all-through P Q xs f h.1)

pub all-numbers : (P : ℕ → Type 0) (from n : ℕ) → ((k : ℕ) → from ≤ k → k < from + n → P k) → AllByRecursion P (numbers from n)
unfolding numbers
all-numbers P from zero h = tt
all-numbers P from (suc n) h = (h from (omega arith) (omega arith), all-numbers P (suc from) n (λ k low high. h k (omega (arith, low)) (omega (arith, high))))

-- what is kept of a list was in it
pub filter-was : {A : Type 0} (p : A → Bool) (xs : List A) (x : A) → Contains (filter p xs) x → Contains xs x
filter-was {A} p xs x c =
    all-at (λ (y : A). Contains xs y) (filter p xs) x (all-filter (λ (y : A). Contains xs y) p xs (all-from (λ (y : A). Contains xs y) xs (λ y h. h))) c

pub length-numbers : (from n : ℕ) → length (numbers from n) ≡ n
unfolding numbers
length-numbers from zero = refl
length-numbers from (suc n) = ap suc (length-numbers (suc from) n)
