-- What the parser makes of a text, place by place, is what the definitions make of all its places.
-- Cited by Texts, parsing.rt.
use Rattle.std.proofs.Common.{◌≡◌, ℕ, zero, suc, ◌+◌, ◌-◌, ◌<◌, ◌≤◌, List, [], ◌∷◌, ◌++◌, length}
use Rattle.std.proofs.Common.{Option, Some, None, Ok, refl, sym, ap, subst, ◌∙◌, arith}
use Rattle.std.specs.List.{filter_map, cons_option}
use Rattle.std.specs.Prelude.{option_to_list}
use Rattle.kt_tuple.specs.declared.tuple.TheConstants.{MAX_PLACES}
use Rattle.kt_tuple.specs.Reading.{◌>>=◌, word_at, after_place}
use Rattle.kt_tuple.specs.Parsing.{Reader, and_behind, places_from, places_in, fault_of, made_of}
use Rattle.kt_tuple.specs.auxiliary.Making.{made_from, made_after, made_in}
use Rattle.kt_tuple.proofs.ValueLaws.{bound}
use Rattle.kt_tuple.proofs.Made.{made_step}
use Rattle.kt_tuple.proofs.Faults.{found_fine, at_most_places}

cons_made : {A : Type 0} (o : Option A) (xs : List A) → option_to_list o ++ xs ≡ cons_option o xs
cons_made None xs = refl
cons_made (Some x) xs = refl

module _ {A : Type 0} (read : Reader) (make : List ℕ → Option A) where
  made_by : (next : Option (List ℕ)) (n i : ℕ) (text p rest : List ℕ) (places : List (List ℕ × List ℕ)) → read text ≡ Ok (p, rest)
      → after_place rest ≡ Ok next → and_behind (p, text) next (places_from read n) ≡ Ok places → i + length places ≤ MAX_PLACES
      → ((following : List ℕ) (behind : List (List ℕ × List ℕ)) → places_from read n following ≡ Ok behind → (i + 1) + length behind ≤ MAX_PLACES
      → made_from read make (MAX_PLACES - (i + 1)) following ≡ filter_map (λ place. make place.0) behind)
      → made_from read make (MAX_PLACES - i) text ≡ filter_map (λ place. make place.0) places
  made_by None n i text p rest places place follows e few more =
      let one : (p, text) ∷ [] ≡ places = cc in
      let lt : i < MAX_PLACES = omega (arith, few, ap length one) in
      rw (made_step read make i text lt, place, follows, sym one) (cons_made (make p) [])
  made_by (Some next) n i text p rest places place follows e few more =
      let behind = bound (places_from read n next) (λ behind. Ok ((p, text) ∷ behind)) places e in
      let whole : (p, text) ∷ behind.0 ≡ places = cc (behind.2) in
      let lt : i < MAX_PLACES = omega (arith, few, ap length whole) in
      let others = more next behind.0 behind.1 (omega (arith, few, ap length whole)) in
      let Made : List (List ℕ × List ℕ) → Type 0 = λ ps. made_from read make (MAX_PLACES - i) text ≡ filter_map (λ place. make place.0) ps in
      subst Made whole
      (rw (made_step read make i text lt, place, follows, others) (cons_made (make p) (filter_map (λ place. make place.0) behind.0)))

  places_made : (n i : ℕ) (text : List ℕ) (places : List (List ℕ × List ℕ)) → places_from read n text ≡ Ok places → i + length places ≤ MAX_PLACES
      → made_from read make (MAX_PLACES - i) text ≡ filter_map (λ place. make place.0) places
  unfolding places_from
  places_made zero i text places e few = absurd cc
  places_made (suc n) i text places e few =
      let place = bound (read text) (λ place. after_place place.1 >>= λ next. and_behind (place.0, text) next (places_from read n)) places e in
      let next = bound (after_place place.0.1) (λ next. and_behind (place.0.0, text) next (places_from read n)) places place.2 in
      made_by next.0 n i text place.0.0 place.0.1 places place.1 next.1 next.2 few (λ following behind. places_made n (i + 1) following behind)

  pub made_of_text : (text : List ℕ) → fault_of read text ≡ None → made_in read make text ≡ made_of make (places_in read text)
  made_of_text text e =
      let places = found_fine text (places_in read text) e in
      let start = bound (word_at text (40 ∷ [])) (λ start. places_from read (length text) start) places.0 places.1 in
      let few : 0 + length places.0 ≤ MAX_PLACES = omega (arith, at_most_places places.0 0 (omega arith) places.2) in
      ap (made_after read make) start.1 ∙ places_made (length text) 0 start.0 places.0 start.2 few ∙ sym (ap (made_of make) places.1)
