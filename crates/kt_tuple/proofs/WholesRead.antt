-- The text of a tuple or template, for each kind of place, is read as that tuple or template.
-- Cited by Texts; other crates.
use Rattle.std.proofs.Common.{◌≡◌, ℕ, zero, suc, ◌+◌, ◌-◌, ◌<◌, ◌≤◌, List, [], ◌∷◌, ◌++◌, length, map}
use Rattle.std.proofs.Common.{Option, Some, None, Ok, refl, ap, ◌∙◌, append_assoc, arith, length-append}
use Rattle.std.proofs.lemmas.List.{append-nil}
use Rattle.std.proofs.lemmas.List.Elements.{All-head, All-tail}
use Rattle.std.specs.List.{flat_map}
use Rattle.std.specs.Prelude.{All}
use Rattle.kt_tuple.specs.declared.tuple.TheConstants.{MAX_PLACES}
use Rattle.kt_tuple.specs.Spelling.{further, separated, in_parentheses}
use Rattle.kt_tuple.specs.Matching.{HasArity}
use Rattle.kt_tuple.specs.Reading.{after_place}
use Rattle.kt_tuple.specs.Parsing.{Reader, places_from, fault_of}
use Rattle.kt_tuple.specs.auxiliary.Making.{made_from, made_in}
use Rattle.kt_tuple.proofs.Made.{made_step}
use Rattle.kt_tuple.proofs.Faults.{AreFine, fine_found}
use Rattle.kt_tuple.proofs.Wholes.{IsReader, separated-cons, length-map_same}

-- each place but the first takes more than a byte
length-further : (texts : List (List ℕ)) → length texts ≤ length (flat_map further texts)
length-further [] = omega arith
length-further (text ∷ texts) = omega (arith, length-append text (flat_map further texts), length-further texts)

length-separated : (texts : List (List ℕ)) → length texts ≤ length (separated texts) + 1
length-separated [] = omega arith
length-separated (first ∷ others) = omega (arith, length-append first (flat_map further others), length-further others)

-- how a text is read from its i-th place on, counted from 0
record IsRead {A : Type 0} (read : Reader) (make : List ℕ → Option A) (n i : ℕ) (text : List ℕ) (xs : List A) : Type 0 where
  places : List (List ℕ × List ℕ)
  found : places_from read n text ≡ Ok places
  fine : AreFine i places
  made : made_from read make (MAX_PLACES - i) text ≡ xs

pub after_last : after_place (41 ∷ []) ≡ Ok None
unfolding after_place
after_last = refl

pub after_other : (next : List ℕ) → after_place (44 ∷ 32 ∷ next) ≡ Ok (Some next)
unfolding after_place
after_other next = refl

module _ {A : Type 0} (read : Reader) (make : List ℕ → Option A) (spell : A → List ℕ) (IsHeld : A → Type 0) (r : IsReader read make spell IsHeld) where
  read_last : (n i : ℕ) (x : A) → i < MAX_PLACES → IsHeld x → IsRead read make (suc n) i (separated (map spell (x ∷ [])) ++ 41 ∷ []) (x ∷ [])
  unfolding places_from
  read_last n i x lt held =
      let text = separated (map spell (x ∷ [])) ++ 41 ∷ [] in
      let place : read text ≡ Ok (spell x, 41 ∷ []) = ap (λ (t : List ℕ). read (t ++ 41 ∷ [])) (append-nil (spell x)) ∙ r.reads x (41 ∷ []) held refl in
      record {
        places = (spell x, text) ∷ [];
        found = rw (place, after_last) refl;
        fine = (lt, r.in_range x held, r.short x held, tt);
        made = rw (made_step read make i text lt, place, r.makes x held, after_last) refl;
      }

  read_more : (n i : ℕ) (x : A) (xs : List A) → 1 ≤ length xs → i < MAX_PLACES → IsHeld x → IsRead read make n (i + 1) (separated (map spell xs) ++ 41 ∷ []) xs
      → IsRead read make (suc n) i (separated (map spell (x ∷ xs)) ++ 41 ∷ []) (x ∷ xs)
  unfolding places_from
  read_more n i x xs some lt held h =
      let text = separated (map spell (x ∷ xs)) ++ 41 ∷ [] in
      let next = separated (map spell xs) ++ 41 ∷ [] in
      let parts : text ≡ spell x ++ (44 ∷ 32 ∷ next) =
      ap (λ (t : List ℕ). t ++ 41 ∷ []) (separated-cons (spell x) (map spell xs) (omega (arith, some, length-map_same spell xs)))
      ∙ append_assoc (spell x) (44 ∷ 32 ∷ separated (map spell xs)) (41 ∷ []) in
      let place : read text ≡ Ok (spell x, 44 ∷ 32 ∷ next) = ap read parts ∙ r.reads x (44 ∷ 32 ∷ next) held refl in
      record {
        places = (spell x, text) ∷ h.places;
        found = rw (place, after_other next, h.found) refl;
        fine = (lt, r.in_range x held, r.short x held, h.fine);
        made = rw (made_step read make i text lt, place, r.makes x held, after_other next) (ap (λ (ys : List A). x ∷ ys) h.made);
      }

  read_all : (xs : List A) (n i : ℕ) → 1 ≤ length xs → length xs ≤ n → i + length xs ≤ MAX_PLACES → All IsHeld xs
      → IsRead read make n i (separated (map spell xs) ++ 41 ∷ []) xs
  read_all [] n i some enough few held = absurd (omega (arith, some))
  read_all (x ∷ xs) zero i some enough few held = absurd (omega (arith, enough))
  read_all (x ∷ []) (suc n) i some enough few held = read_last n i x (omega (arith, few)) (All-head IsHeld x [] held)
  read_all (x ∷ (y ∷ ys)) (suc n) i some enough few held =
      read_more n i x (y ∷ ys) (omega arith) (omega (arith, few)) (All-head IsHeld x (y ∷ ys) held)
      (read_all (y ∷ ys) n (i + 1) (omega arith) (omega (arith, enough)) (omega (arith, few)) (All-tail IsHeld x (y ∷ ys) held))

  whole_read : (xs : List A) → HasArity xs → All IsHeld xs
      → IsRead read make (length (in_parentheses (map spell xs))) 0 (separated (map spell xs) ++ 41 ∷ []) xs
  whole_read xs arity held =
      let text = separated (map spell xs) in
      let enough : length xs ≤ length (in_parentheses (map spell xs)) =
      omega (arith, length-append text (41 ∷ []), length-separated (map spell xs), length-map_same spell xs) in
      read_all xs (length (in_parentheses (map spell xs))) 0 arity.0 enough (omega (arith, arity.1)) held

  -- no fault is found in it
  pub text_faultless : (xs : List A) → HasArity xs → All IsHeld xs
      → fault_of read (in_parentheses (map spell xs)) ≡ None
  text_faultless xs arity held =
      let h = whole_read xs arity held in
      rw h.found (fine_found (in_parentheses (map spell xs)) h.places h.fine)

  -- and it is made again of it
  pub text_remade : (xs : List A) → HasArity xs → All IsHeld xs → made_in read make (in_parentheses (map spell xs)) ≡ xs
  text_remade xs arity held = (whole_read xs arity held).made
