-- What the other faults of a text say of its places.
-- Cited by Exact, Explained, `laws::a_text_of_the_shape_has_these_faults`.
use Rattle.std.proofs.Common.{◌≡◌, ℕ, ◌-◌, ◌<◌, ◌⊎◌, inl, inr, Bool, true, false, ltb, List, [], ◌∷◌, ◌++◌, length, map}
use Rattle.std.proofs.Common.{Option, Some, None, Result, Ok, Err, refl, sym, ap, subst, ◌∙◌, append_assoc, arith, length-append}
use Rattle.std.proofs.lemmas.Bool.{ltb-true, or_cases, cases_Bool}
use Rattle.std.proofs.lemmas.List.{append-nil, length-map}
use Rattle.std.specs.List.{flat_map, list_all}
use Rattle.kt_tuple.specs.declared.tuple.TheConstants.{MAX_PLACES}
use Rattle.kt_tuple.specs.declared.parse_error.ParseError.TheVariants as faults
use Rattle.kt_tuple.specs.Grammar.{Consists, followed}
use Rattle.kt_tuple.specs.Reading.{has_range, is_short}
use Rattle.kt_tuple.specs.Parsing.{Reader, places_in, first_outside, are_too_long, lower_fault, fault_of_places, fault_of}
use Rattle.kt_tuple.proofs.Rows.{HasOutside, HasTooLong}
use Rattle.kt_tuple.proofs.Shapes.{IsReaderOf}
use Rattle.kt_tuple.proofs.Layouts.{Laid, last, next, spelling, laid_consists}
use Rattle.kt_tuple.proofs.Faults.{is_one_long, none_outside}
use Rattle.kt_tuple.proofs.TextShapes.{read_shape}

-- the first place out of range, behind this front of the whole text
record Outside (whole front : List ℕ) (ps : List (List ℕ)) (at : ℕ) : Type 0 where
  before : List (List ℕ)
  number : List ℕ
  others : List (List ℕ)
  rest : List ℕ
  are : ps ≡ before ++ number ∷ others
  parts : whole ≡ (front ++ flat_map followed before) ++ (number ++ rest)
  begins : length (front ++ flat_map followed before) ≡ at
  inside : list_all has_range before ≡ true
  outside : has_range number ≡ false

-- the place itself is out of range
outside_here : (whole front p behind : List ℕ) (others : List (List ℕ)) (at : ℕ) → whole ≡ front ++ (p ++ behind) → has_range p ≡ false
    → Some (length whole - length (p ++ behind)) ≡ Some at → Outside whole front (p ∷ others) at
outside_here whole front p behind others at parts out e =
    let same : length whole - length (p ++ behind) ≡ at = cc in
    record {
      before = [];
      number = p;
      others = others;
      rest = behind;
      are = refl;
      parts = parts ∙ ap (λ (t : List ℕ). t ++ (p ++ behind)) (sym (append-nil front));
      begins = ap length (append-nil front) ∙ omega (arith, same, ap length parts, length-append front (p ++ behind));
      inside = refl;
      outside = out;
    }

-- it comes later
outside_later : (whole front p : List ℕ) (ps : List (List ℕ)) (at : ℕ) → has_range p ≡ true → Outside whole (front ++ followed p) ps at
    → Outside whole front (p ∷ ps) at
outside_later whole front p ps at range h =
    let fronts : (front ++ followed p) ++ flat_map followed h.before ≡ front ++ flat_map followed (p ∷ h.before) =
    append_assoc front (followed p) (flat_map followed h.before) in
    record {
      before = p ∷ h.before;
      number = h.number;
      others = h.others;
      rest = h.rest;
      are = ap (λ (qs : List (List ℕ)). p ∷ qs) h.are;
      parts = h.parts ∙ ap (λ (t : List ℕ). t ++ (h.number ++ h.rest)) fronts;
      begins = ap length (sym fronts) ∙ h.begins;
      inside = rw range h.inside;
      outside = h.outside;
    }

module _ (whole : List ℕ) where
  outside_last : (b : Bool) (front p : List ℕ) (at : ℕ) → has_range p ≡ b → whole ≡ front ++ (p ++ 41 ∷ [])
      → first_outside whole ((p, p ++ 41 ∷ []) ∷ []) ≡ Some at → Outside whole front (p ∷ []) at
  outside_last true front p at range parts e =
      let never : None ≡ Some at = rw range at e in
      absurd cc
  outside_last false front p at range parts e = outside_here whole front p (41 ∷ []) [] at parts range (rw range at e)

  outside_next : (b : Bool) (front p behind : List ℕ) (found : List (List ℕ × List ℕ)) (at : ℕ) → has_range p ≡ b
      → whole ≡ front ++ (p ++ 44 ∷ 32 ∷ behind)
      → (whole ≡ (front ++ followed p) ++ behind → first_outside whole found ≡ Some at → Outside whole (front ++ followed p) (map spelling found) at)
      → first_outside whole ((p, p ++ 44 ∷ 32 ∷ behind) ∷ found) ≡ Some at → Outside whole front (p ∷ map spelling found) at
  outside_next true front p behind found at range parts more e =
      let joined : front ++ (p ++ 44 ∷ 32 ∷ behind) ≡ (front ++ followed p) ++ behind =
      ap (λ (t : List ℕ). front ++ t) (sym (append_assoc p (44 ∷ 32 ∷ []) behind)) ∙ sym (append_assoc front (followed p) behind) in
      outside_later whole front p (map spelling found) at range (more (parts ∙ joined) (rw range at e))
  outside_next false front p behind found at range parts more e =
      outside_here whole front p (44 ∷ 32 ∷ behind) (map spelling found) at parts range (rw range at e)

  outside_from : {IsOne : List ℕ → Type 0} (front text : List ℕ) (found : List (List ℕ × List ℕ)) (at : ℕ) → Laid IsOne found text
      → whole ≡ front ++ text → first_outside whole found ≡ Some at → Outside whole front (map spelling found) at
  outside_from front text found at (last {p} h) parts e = outside_last (has_range p) front p at refl parts e
  outside_from front text found at (next {p} {text = behind} {found = others} h l) parts e =
      outside_next (has_range p) front p behind others at refl parts (λ t. outside_from (front ++ followed p) behind others at l t) e

-- nothing is out of range
all_inside : (whole : List ℕ) (found : List (List ℕ × List ℕ)) → first_outside whole found ≡ None → list_all has_range (map spelling found) ≡ true
all_inside whole [] e = refl
all_inside whole (place ∷ found) e =
    let here = none_outside (has_range place.0) _ (first_outside whole found) e in
    rw here.0 (all_inside whole found here.1)

-- a place is too long
one_long : (found : List (List ℕ × List ℕ)) → is_one_long found ≡ true → list_all is_short (map spelling found) ≡ false
one_long [] e = absurd cc
one_long (place ∷ found) e = elim (cases_Bool (is_short place.0)) [
  | inl short ↦ rw short (one_long found (rw short at e))
  | inr long ↦ rw long refl
]

too_long_by : (found : List (List ℕ × List ℕ)) → are_too_long found ≡ true → (MAX_PLACES < length found) ⊎ (list_all is_short (map spelling found) ≡ false)
too_long_by found e = elim (or_cases (ltb MAX_PLACES (length found)) (is_one_long found) e) [
  | inl many ↦ inl (ltb-true MAX_PLACES (length found) many)
  | inr long ↦ inr (one_long found long)
]

-- which fault was found
range_found : (o : Option ℕ) (b : Bool) (at : ℕ) → lower_fault o b ≡ Some (faults.Range at) → o ≡ Some at
range_found (Some n) b at e = cc
range_found None true at e = absurd cc
range_found None false at e = absurd cc

too_long_found : (o : Option ℕ) (b : Bool) → lower_fault o b ≡ Some faults.TooLong → (o ≡ None) × (b ≡ true)
too_long_found (Some n) b e = absurd cc
too_long_found None true e = (refl, refl)
too_long_found None false e = absurd cc

range_ok : (text : List ℕ) (r : Result (List (List ℕ × List ℕ)) (List ℕ)) (at : ℕ) → fault_of_places text r ≡ Some (faults.Range at)
    → (found : List (List ℕ × List ℕ)) × (r ≡ Ok found) × (first_outside text found ≡ Some at)
range_ok text (Err rest) at e = absurd cc
range_ok text (Ok found) at e = (found, refl, range_found (first_outside text found) (are_too_long found) at e)

too_long_ok : (text : List ℕ) (r : Result (List (List ℕ × List ℕ)) (List ℕ)) → fault_of_places text r ≡ Some faults.TooLong
    → (found : List (List ℕ × List ℕ)) × (r ≡ Ok found) × (first_outside text found ≡ None) × (are_too_long found ≡ true)
too_long_ok text (Err rest) e = absurd cc
too_long_ok text (Ok found) e =
    let h = too_long_found (first_outside text found) (are_too_long found) e in
    (found, refl, h.0, h.1)

module _ (read : Reader) (IsOne : List ℕ → Type 0) (g : IsReaderOf read IsOne) where
  consists : (text start : List ℕ) (found : List (List ℕ × List ℕ)) → text ≡ 40 ∷ start → Laid IsOne found start → Consists IsOne (map spelling found) text
  consists text start found e l = subst (Consists IsOne (map spelling found)) (sym e) (laid_consists found start l)

  pub range_outside : (text : List ℕ) (at : ℕ) → fault_of read text ≡ Some (faults.Range at) → HasOutside IsOne text at
  range_outside text at e =
      let f = range_ok text (places_in read text) at e in
      let l = read_shape read IsOne g text f.0 f.1 in
      let o = outside_from text (40 ∷ []) l.0 f.0 at l.2 l.1 f.2 in
      record {
        before = o.before;
        number = o.number;
        others = o.others;
        rest = o.rest;
        places = subst (λ (ps : List (List ℕ)). Consists IsOne ps text) o.are (consists text l.0 f.0 l.1 l.2);
        parts = o.parts;
        begins = o.begins;
        inside = o.inside;
        outside = o.outside;
      }

  pub too_long_inside : (text : List ℕ) → fault_of read text ≡ Some faults.TooLong → HasTooLong IsOne text
  too_long_inside text e =
      let f = too_long_ok text (places_in read text) e in
      let l = read_shape read IsOne g text f.0 f.1 in
      record {
        places = map spelling f.0;
        are = consists text l.0 f.0 l.1 l.2;
        inside = all_inside text f.0 f.2;
        long = elim (too_long_by f.0 f.3) [
          | inl h ↦ inl (omega (arith, h, length-map f.0 spelling))
          | inr h ↦ inr h
        ];
      }
