-- Reading place after place.
-- Cited by `parsing::found_in`.
use Rattle.std.proofs.Common.{◌≡◌, ℕ, suc, ◌+◌, ◌-◌, ◌<◌, ◌≤◌, List, ◌∷◌, length, Some, None, Result, Ok, Err, refl, sym, ap, ◌∙◌, arith}
use Rattle.kt_tuple.specs.declared.parsing.Findings.{Findings}
use Rattle.kt_tuple.specs.Reading.{◌>>=◌, after_place}
use Rattle.kt_tuple.specs.Parsing.{Reader, places_from, and_behind}
use Rattle.kt_tuple.specs.auxiliary.Findings.{with_place, found_with}

-- one place is read, and what follows says how it goes on
places_step : (read : Reader) (n i : ℕ) (text : List ℕ) → i < n
    → places_from read (n - i) text ≡ (read text >>= λ place. after_place place.1 >>= λ next. and_behind (place.0, text) next (places_from read (n - (i + 1))))
unfolding places_from
places_step read n i text lt =
    let k : n - i ≡ suc (n - (i + 1)) = omega arith in
    ap (λ m. places_from read m text) k

found_more : (text : List ℕ) (found : Findings) (i : ℕ) (place : List ℕ × List ℕ) (r : Result (List (List ℕ × List ℕ)) (List ℕ))
    → found_with text found i (r >>= λ behind. Ok (place ∷ behind)) ≡ found_with text (with_place text found i place) (i + 1) r
found_more text found i place (Ok places) = refl
found_more text found i place (Err rest) = refl

module _ (read : Reader) (text : List ℕ) (found : Findings) (i : ℕ) (rest : List ℕ) (total : Result Findings (List ℕ)) (lt : i < length text)
    (so_far : found_with text found i (places_from read (length text - i) rest) ≡ total) where
  -- no place stands there
  pub unread : (e : List ℕ) → read rest ≡ Err e → total ≡ Err e
  unread e no_place = sym so_far ∙ rw (places_step read (length text) i rest lt, no_place) refl

  -- a place stands there, and nothing that may follow
  pub unfollowed : (spelling after e : List ℕ) → read rest ≡ Ok (spelling, after) → after_place after ≡ Err e → total ≡ Err e
  unfollowed spelling after e place follows = sym so_far ∙ rw (places_step read (length text) i rest lt, place, follows) refl

  -- the last place
  pub last : (spelling after : List ℕ) → read rest ≡ Ok (spelling, after) → after_place after ≡ Ok None → total ≡ Ok (with_place text found i (spelling, rest))
  last spelling after place follows = sym so_far ∙ rw (places_step read (length text) i rest lt, place, follows) refl

  -- a place, and another behind it
  pub goes_on : (spelling after next : List ℕ) → read rest ≡ Ok (spelling, after) → after_place after ≡ Ok (Some next)
      → found_with text (with_place text found i (spelling, rest)) (i + 1) (places_from read (length text - (i + 1)) next) ≡ total
  goes_on spelling after next place follows =
      sym (found_more text found i (spelling, rest) (places_from read (length text - (i + 1)) next))
      ∙ sym (rw (places_step read (length text) i rest lt, place, follows) refl) ∙ so_far

pub given_up : (read : Reader) (text : List ℕ) (found : Findings) (i : ℕ) (rest : List ℕ) (total : Result Findings (List ℕ)) → length text ≤ i
    → found_with text found i (places_from read (length text - i) rest) ≡ total → total ≡ Err rest
unfolding places_from
given_up read text found i rest total le so_far =
    let k : length text - i ≡ 0 = omega arith in
    sym so_far ∙ ap (λ m. found_with text found i (places_from read m rest)) k
