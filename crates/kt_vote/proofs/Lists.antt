-- What std lacks on lists.
-- Cited by After, Told.
use Rattle.std.proofs.Common.{◌≡◌, suc, arith, Bool, true, false, not, ◌&&◌, ◌||◌, cond, List, [], ◌∷◌, filter, All, Option, None, Some, refl, sym, ap}
use Rattle.std.specs.Prelude.{IsSome}
use Rattle.std.specs.List.{list_any}
use Rattle.std.specs.Option.{is_none}
use Rattle.std.proofs.lemmas.Bool.{false≢true}
use Rattle.std.proofs.lemmas.List.Elements.{All-cons, All-nil}

-- where none passes a test, those that do not pass it are all
pub filter_not : {X : Type 0} (p : X → Bool) (xs : List X) → list_any p xs ≡ false → filter (λ x. not (p x)) xs ≡ xs
filter_not p [] e = refl
filter_not p (x ∷ xs) e = by (p x) refl e (filter_not p xs)
  where
    by : (n : Bool) → p x ≡ n → (n || list_any p xs) ≡ false → (list_any p xs ≡ false → filter (λ y. not (p y)) xs ≡ xs)
        → cond (not n) (x ∷ filter (λ y. not (p y)) xs) (filter (λ y. not (p y)) xs) ≡ x ∷ xs
    by true at e rest = absurd (false≢true (sym e))
    by false at e rest = ap (λ l. x ∷ l) (rest e)

-- a test that is guarded passes somewhere exactly where its guard holds and it does
pub guarded_any : {X : Type 0} (g : Bool) (p : X → Bool) (xs : List X) → list_any (λ x. g && p x) xs ≡ (g && list_any p xs)
guarded_any true p xs = refl
guarded_any false p [] = refl
guarded_any false p (x ∷ xs) = guarded_any false p xs

-- nothing is without a value exactly where all have one
pub all_some : {X Y : Type 0} (s : X → Option Y) (xs : List X) → filter (λ x. is_none (s x)) xs ≡ [] → All (λ x. IsSome (s x)) xs
all_some s [] e = All-nil (λ x. IsSome (s x))
all_some {Y = Y} s (x ∷ xs) e = by (s x) refl e (all_some s xs)
  where
    by : (o : Option Y) → s x ≡ o → cond (is_none o) (x ∷ filter (λ y. is_none (s y)) xs) (filter (λ y. is_none (s y)) xs) ≡ []
        → (filter (λ y. is_none (s y)) xs ≡ [] → All (λ y. IsSome (s y)) xs) → All (λ y. IsSome (s y)) (x ∷ xs)
    by None at e rest = absurd cc
    by (Some y) at e rest = All-cons (λ y. IsSome (s y)) x xs (rw at refl) (rest e)

pub none_without : {X Y : Type 0} (s : X → Option Y) (xs : List X) → All (λ x. IsSome (s x)) xs → filter (λ x. is_none (s x)) xs ≡ []
none_without s [] all = refl
none_without {Y = Y} s (x ∷ xs) all = by (s x) (all 0 x (omega arith)) (none_without s xs (λ k d lt. all (suc k) d (omega (arith, lt))))
  where
    by : (o : Option Y) → IsSome o → filter (λ y. is_none (s y)) xs ≡ []
        → cond (is_none o) (x ∷ filter (λ y. is_none (s y)) xs) (filter (λ y. is_none (s y)) xs) ≡ []
    by None some rest = absurd (false≢true some)
    by (Some y) some rest = rest
