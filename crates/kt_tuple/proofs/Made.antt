-- Building place after place.
-- Cited by Making, Wholes, WholesRead, `parsing::items_in`.
use Rattle.std.proofs.Common.{◌≡◌, ℕ, suc, ◌+◌, ◌-◌, ◌<◌, ◌≤◌, List, ◌++◌, Option, Some, None, Ok, Err, refl, sym, ap, ◌∙◌, append_assoc, arith}
use Rattle.std.specs.Prelude.{option_to_list}
use Rattle.std.proofs.lemmas.List.{append-nil}
use Rattle.kt_tuple.specs.declared.tuple.TheConstants.{MAX_PLACES}
use Rattle.kt_tuple.specs.Reading.{after_place}
use Rattle.kt_tuple.specs.Parsing.{Reader}
use Rattle.kt_tuple.specs.auxiliary.Making.{made_with, made_from}

pub made_step : {A : Type 0} (read : Reader) (make : List ℕ → Option A) (i : ℕ) (text : List ℕ) → i < MAX_PLACES
    → made_from read make (MAX_PLACES - i) text ≡ made_with (read text) make (made_from read make (MAX_PLACES - (i + 1)))
unfolding made_from
made_step read make i text lt =
    let k : MAX_PLACES - i ≡ suc (MAX_PLACES - (i + 1)) = omega arith in
    ap (λ m. made_from read make m text) k

module _ {A : Type 0} (read : Reader) (make : List ℕ → Option A) (i : ℕ) (rest : List ℕ) (front total : List A) (lt : i < MAX_PLACES)
    (so_far : front ++ made_from read make (MAX_PLACES - i) rest ≡ total) where
  pub none_read : (e : List ℕ) → read rest ≡ Err e → front ≡ total
  none_read e no_place = sym (append-nil front) ∙ sym (rw (made_step read make i rest lt, no_place) refl) ∙ so_far

  pub last_made : (spelling after : List ℕ) → read rest ≡ Ok (spelling, after) → after_place after ≡ Ok None → front ++ option_to_list (make spelling) ≡ total
  last_made spelling after place follows =
      ap (λ (made : List A). front ++ made) (sym (append-nil (option_to_list (make spelling)))) ∙ sym (rw (made_step read make i rest lt, place, follows) refl)
      ∙ so_far

  pub unfollowed_made : (spelling after e : List ℕ) → read rest ≡ Ok (spelling, after) → after_place after ≡ Err e
      → front ++ option_to_list (make spelling) ≡ total
  unfollowed_made spelling after e place follows =
      ap (λ (made : List A). front ++ made) (sym (append-nil (option_to_list (make spelling)))) ∙ sym (rw (made_step read make i rest lt, place, follows) refl)
      ∙ so_far

  pub made_goes_on : (spelling after next : List ℕ) → read rest ≡ Ok (spelling, after) → after_place after ≡ Ok (Some next)
      → (front ++ option_to_list (make spelling)) ++ made_from read make (MAX_PLACES - (i + 1)) next ≡ total
  made_goes_on spelling after next place follows =
      append_assoc front (option_to_list (make spelling)) (made_from read make (MAX_PLACES - (i + 1)) next)
      ∙ sym (rw (made_step read make i rest lt, place, follows) refl) ∙ so_far

pub made_enough : {A : Type 0} (read : Reader) (make : List ℕ → Option A) (i : ℕ) (rest : List ℕ) (front total : List A) → MAX_PLACES ≤ i
    → front ++ made_from read make (MAX_PLACES - i) rest ≡ total → front ≡ total
unfolding made_from
made_enough read make i rest front total le so_far =
    let k : MAX_PLACES - i ≡ 0 = omega arith in
    sym (append-nil front) ∙ sym (ap (λ m. front ++ made_from read make m rest) k) ∙ so_far
