-- The match of a number, and the tuples without it, from the place where it stands.
-- Cited by Bags, Filled, Taken, `laws::no_match_is_given_where_fewer_match`; other crates.
use Rattle.std.proofs.Common.{◌≡◌, ℕ, zero, suc, ◌<◌, ◌≤◌, Bool, true, false, cond, List, [], ◌∷◌, ◌++◌, length, get_or, take, remove}
use Rattle.std.proofs.Common.{Some, refl, sym, ap, ◌∙◌, arith}
use Rattle.std.specs.List.{slice_get}
use Rattle.std.proofs.lemmas.Option.{slice_get_read}
use Rattle.kt_tuple.specs.declared.tuple.Tuple.{Tuple}
use Rattle.kt_tuple.specs.declared.template.Template.{Template}
use Rattle.kt_tuple.specs.Matching.{matches}
use Rattle.kt_space.specs.Picking.{matching, without_match, up_to_match}

-- a tuple that does not match is kept
pub kept : (t : Template) (k : ℕ) (u : Tuple) (later : List Tuple) → matches t u ≡ false → without_match t k (u ∷ later) ≡ u ∷ without_match t k later
unfolding without_match
kept t zero u later e = rw e refl
kept t (suc k) u later e = rw e refl

-- a match that is not the one is kept too
pub kept_match : (t : Template) (k : ℕ) (u : Tuple) (later : List Tuple) → matches t u ≡ true
    → without_match t (suc k) (u ∷ later) ≡ u ∷ without_match t k later
unfolding without_match
kept_match t k u later e = rw e refl

pub taken_match : (t : Template) (u : Tuple) (later : List Tuple) → matches t u ≡ true → without_match t zero (u ∷ later) ≡ later
unfolding without_match
taken_match t u later e = rw e refl

-- where the matches before a place are k, the match there is the k-th
pub match_here : (t : Template) (xs : List Tuple) (i : ℕ) (u : Tuple) → slice_get xs i ≡ Some u → matches t u ≡ true
    → slice_get (matching t xs) (length (matching t (take i xs))) ≡ Some u
match_here t [] i u at m = absurd cc
match_here t (x ∷ xs) zero u at m = let same : x ≡ u = cc in rw (ap (matches t) same ∙ m) at
match_here t (x ∷ xs) (suc i) u at m = by (matches t x) (match_here t xs i u at m)
  where
    by : (r : Bool) → slice_get (matching t xs) (length (matching t (take i xs))) ≡ Some u
        → slice_get (cond r (x ∷ matching t xs) (matching t xs)) (length (cond r (x ∷ matching t (take i xs)) (matching t (take i xs)))) ≡ Some u
    by true rest = rest
    by false rest = rest

pub without_here : (t : Template) (xs : List Tuple) (i : ℕ) (u : Tuple) → slice_get xs i ≡ Some u → matches t u ≡ true
    → remove xs i ≡ without_match t (length (matching t (take i xs))) xs
without_here t [] i u at m = absurd cc
without_here t (x ∷ xs) zero u at m = let same : x ≡ u = cc in sym (taken_match t x xs (ap (matches t) same ∙ m))
without_here t (x ∷ xs) (suc i) u at m = by (matches t x) refl (ap (λ (l : List Tuple). x ∷ l) (without_here t xs i u at m))
  where
    by : (r : Bool) → matches t x ≡ r → x ∷ remove xs i ≡ x ∷ without_match t (length (matching t (take i xs))) xs
        → x ∷ remove xs i ≡ without_match t (length (cond r (x ∷ matching t (take i xs)) (matching t (take i xs)))) (x ∷ xs)
    by true e rest = rest ∙ sym (kept_match t (length (matching t (take i xs))) x xs e)
    by false e rest = rest ∙ sym (kept t (length (matching t (take i xs))) x xs e)

-- the tuples up to a match, as they stand before it
up_to_other : (t : Template) (k : ℕ) (u : Tuple) (later : List Tuple) → matches t u ≡ false
    → up_to_match t k (u ∷ later) ≡ u ∷ up_to_match t k later
unfolding up_to_match
up_to_other t zero u later e = rw e refl
up_to_other t (suc k) u later e = rw e refl

up_to_later : (t : Template) (k : ℕ) (u : Tuple) (later : List Tuple) → matches t u ≡ true
    → up_to_match t (suc k) (u ∷ later) ≡ u ∷ up_to_match t k later
unfolding up_to_match
up_to_later t k u later e = rw e refl

up_to_first : (t : Template) (u : Tuple) (later : List Tuple) → matches t u ≡ true → up_to_match t zero (u ∷ later) ≡ u ∷ []
unfolding up_to_match
up_to_first t u later e = rw e refl

pub up_to_here : (t : Template) (xs : List Tuple) (i : ℕ) (u : Tuple) → slice_get xs i ≡ Some u → matches t u ≡ true
    → take i xs ++ u ∷ [] ≡ up_to_match t (length (matching t (take i xs))) xs
up_to_here t [] i u at m = absurd cc
up_to_here t (x ∷ xs) zero u at m =
    let same : x ≡ u = cc in
    ap (λ (v : Tuple). v ∷ []) (sym same) ∙ sym (up_to_first t x xs (ap (matches t) same ∙ m))
up_to_here t (x ∷ xs) (suc i) u at m = by (matches t x) refl (ap (λ (l : List Tuple). x ∷ l) (up_to_here t xs i u at m))
  where
    by : (r : Bool) → matches t x ≡ r → x ∷ (take i xs ++ u ∷ []) ≡ x ∷ up_to_match t (length (matching t (take i xs))) xs
        → x ∷ (take i xs ++ u ∷ []) ≡ up_to_match t (length (cond r (x ∷ matching t (take i xs)) (matching t (take i xs)))) (x ∷ xs)
    by true e rest = rest ∙ sym (up_to_later t (length (matching t (take i xs))) x xs e)
    by false e rest = rest ∙ sym (up_to_other t (length (matching t (take i xs))) x xs e)

-- where fewer match, they are all
pub up_to_all : (t : Template) (xs : List Tuple) (k : ℕ) → length (matching t xs) ≤ k → up_to_match t k xs ≡ xs
unfolding up_to_match
up_to_all t [] k few = refl
up_to_all t (x ∷ xs) k few = by (matches t x) refl k few (λ n. up_to_all t xs n)
  where
    by : (r : Bool) → matches t x ≡ r → (n : ℕ) → length (cond r (x ∷ matching t xs) (matching t xs)) ≤ n
        → ((m : ℕ) → length (matching t xs) ≤ m → up_to_match t m xs ≡ xs) → up_to_match t n (x ∷ xs) ≡ x ∷ xs
    by true e zero few rest = absurd (omega arith)
    by true e (suc n) few rest = up_to_later t n x xs e ∙ ap (λ (l : List Tuple). x ∷ l) (rest n (omega arith))
    by false e n few rest = up_to_other t n x xs e ∙ ap (λ (l : List Tuple). x ∷ l) (rest n few)

-- where fewer match, nothing is taken
pub without_none : (t : Template) (xs : List Tuple) (k : ℕ) → length (matching t xs) ≤ k → without_match t k xs ≡ xs
unfolding without_match
without_none t [] k few = refl
without_none t (x ∷ xs) k few = by (matches t x) refl k few (λ n. without_none t xs n)
  where
    by : (r : Bool) → matches t x ≡ r → (n : ℕ) → length (cond r (x ∷ matching t xs) (matching t xs)) ≤ n
        → ((m : ℕ) → length (matching t xs) ≤ m → without_match t m xs ≡ xs) → without_match t n (x ∷ xs) ≡ x ∷ xs
    by true e zero few rest = absurd (omega arith)
    by true e (suc n) few rest = kept_match t n x xs e ∙ ap (λ (l : List Tuple). x ∷ l) (rest n (omega arith))
    by false e n few rest = kept t n x xs e ∙ ap (λ (l : List Tuple). x ∷ l) (rest n few)

-- the same, as a search from the front finds them
pub found : (t : Template) (xs : List Tuple) (i k : ℕ) (u : Tuple) → i < length xs → u ≡ get_or xs i u → matches t u ≡ true
    → length (matching t (take i xs)) ≡ k
    → (slice_get xs i ≡ slice_get (matching t xs) k) × (remove xs i ≡ without_match t k xs)
found t xs i k u lt is m at =
    let here : slice_get xs i ≡ Some u = slice_get_read xs (length xs) i u refl lt is in (
      here ∙ sym (match_here t xs i u here m) ∙ ap (slice_get (matching t xs)) at,
      without_here t xs i u here m ∙ ap (λ n. without_match t n xs) at,
    )
