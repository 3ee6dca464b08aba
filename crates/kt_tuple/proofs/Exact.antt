-- Each fault, and none, is just where the grammar says so.
-- Cited by Explained, `laws::a_text_of_the_shape_has_these_faults`.
use Rattle.std.proofs.Common.{◌≡◌, ℕ, ◌+◌, ◌≤◌, inl, inr, Bool, true, false, List, [], ◌∷◌, ◌++◌, length}
use Rattle.std.proofs.Common.{map, Option, Some, None, Result, Ok, Err, refl, sym, ap, subst, ◌∙◌, arith}
use Rattle.std.proofs.lemmas.Bool.{and_parts}
use Rattle.std.specs.List.{flat_map, list_all}
use Rattle.kt_tuple.specs.declared.tuple.TheConstants.{MAX_PLACES}
use Rattle.kt_tuple.specs.declared.parse_error.ParseError.{ParseError}
use Rattle.kt_tuple.specs.declared.parse_error.ParseError.TheVariants as faults
use Rattle.kt_tuple.specs.Grammar.{Consists, followed}
use Rattle.kt_tuple.proofs.Rows.{HasOutside, HasTooLong, HasFine}
use Rattle.kt_tuple.specs.Reading.{has_range, is_short}
use Rattle.kt_tuple.specs.Parsing.{Reader, places_in, first_outside, are_too_long, lower_fault, fault_of_places, fault_of}
use Rattle.kt_tuple.proofs.Faults.{AreFine, found_fine, fine_found}
use Rattle.kt_tuple.proofs.Shapes.{IsReaderOf}
use Rattle.kt_tuple.proofs.Layouts.{spelling, laid_consists}
use Rattle.kt_tuple.proofs.TextShapes.{shape_read, read_shape, shape_no_syntax, one_row}
use Rattle.kt_tuple.proofs.TextFaults.{range_outside, too_long_inside}

-- `MAX_PLACES` places at most, in range and short
record Fine (i : ℕ) (ps : List (List ℕ)) : Type 0 where
  inside : list_all has_range ps ≡ true
  few : i + length ps ≤ MAX_PLACES
  short : list_all is_short ps ≡ true

fine_all : (found : List (List ℕ × List ℕ)) (i : ℕ) → i ≤ MAX_PLACES → AreFine i found → Fine i (map spelling found)
fine_all [] i le h = record { inside = refl; few = omega (arith, le); short = refl }
fine_all (place ∷ found) i le h =
    let behind = fine_all found (i + 1) (omega (arith, h.0)) h.3 in
    record { inside = rw h.1 behind.inside; few = omega (arith, behind.few); short = rw h.2 behind.short }

all_fine : (found : List (List ℕ × List ℕ)) (i : ℕ) → Fine i (map spelling found) → AreFine i found
all_fine [] i h = tt
all_fine (place ∷ found) i h =
    let range = and_parts (has_range place.0) (list_all has_range (map spelling found)) h.inside in
    let short = and_parts (is_short place.0) (list_all is_short (map spelling found)) h.short in
    (omega (arith, h.few), range.0, short.0, all_fine found (i + 1) (record { inside = range.1; few = omega (arith, h.few); short = short.1 }))

-- a place out of range is not among places in range
not_inside : (before : List (List ℕ)) (number : List ℕ) (others : List (List ℕ)) → has_range number ≡ false
    → list_all has_range (before ++ number ∷ others) ≡ true → ⊥
not_inside [] number others out all =
    let h = and_parts (has_range number) (list_all has_range others) all in
    let never : true ≡ false = sym h.0 ∙ out in
    absurd cc
not_inside (p ∷ before) number others out all =
    not_inside before number others out (and_parts (has_range p) (list_all has_range (before ++ number ∷ others)) all).1

-- a row has one first place out of range
one_front : (before : List (List ℕ)) (number : List ℕ) (others before' : List (List ℕ)) (number' : List ℕ) (others' : List (List ℕ))
    → before ++ number ∷ others ≡ before' ++ number' ∷ others'
    → list_all has_range before ≡ true → has_range number ≡ false → list_all has_range before' ≡ true → has_range number' ≡ false → before ≡ before'
one_front [] number others [] number' others' e all out all' out' = refl
one_front [] number others (q ∷ before') number' others' e all out all' out' =
    let same : number ≡ q = cc in
    let inside = (and_parts (has_range q) (list_all has_range before') all').0 in
    let never : true ≡ false = sym inside ∙ ap has_range (sym same) ∙ out in
    absurd cc
one_front (p ∷ before) number others [] number' others' e all out all' out' =
    let same : p ≡ number' = cc in
    let inside = (and_parts (has_range p) (list_all has_range before) all).0 in
    let never : true ≡ false = sym inside ∙ ap has_range same ∙ out' in
    absurd cc
one_front (p ∷ before) number others (q ∷ before') number' others' e all out all' out' =
    let first : p ≡ q = cc in
    let rest : before ++ number ∷ others ≡ before' ++ number' ∷ others' = cc in
    let fronts = one_front before number others before' number' others' rest (and_parts (has_range p) (list_all has_range before) all).1 out
    (and_parts (has_range q) (list_all has_range before') all').1 out' in
    ap (λ k. k ∷ before) first ∙ ap (λ (ps : List (List ℕ)). q ∷ ps) fronts

no_memory : (o : Option ℕ) (b : Bool) → lower_fault o b ≡ Some faults.OutOfMemory → ⊥
no_memory (Some n) b e = absurd cc
no_memory None true e = absurd cc
no_memory None false e = absurd cc

module _ (read : Reader) (IsOne : List ℕ → Type 0) (g : IsReaderOf read IsOne) where
  pub none_accepted : (text : List ℕ) → fault_of read text ≡ None → HasFine IsOne text
  none_accepted text e =
      let f = found_fine text (places_in read text) e in
      let l = read_shape read IsOne g text f.0 f.1 in
      let h = fine_all f.0 0 (omega arith) f.2 in
      record {
        places = map spelling f.0;
        are = subst (Consists IsOne (map spelling f.0)) (sym l.1) (laid_consists f.0 l.0 l.2);
        inside = h.inside;
        few = omega (arith, h.few);
        short = h.short;
      }

  pub accepted_none : (text : List ℕ) → HasFine IsOne text → fault_of read text ≡ None
  accepted_none text a =
      let f = shape_read read IsOne g a.places text a.are in
      let fine : Fine 0 a.places = record { inside = a.inside; few = omega (arith, a.few); short = a.short } in
      rw f.1 (fine_found text f.0 (all_fine f.0 0 (subst (Fine 0) (sym f.2) fine)))

  never_memory : (text : List ℕ) → fault_of read text ≡ Some faults.OutOfMemory → ⊥
  never_memory text e = by (places_in read text) e
    where
      by : (r : Result (List (List ℕ × List ℕ)) (List ℕ)) → fault_of_places text r ≡ Some faults.OutOfMemory → ⊥
      by (Err rest) is = absurd cc
      by (Ok found) is = no_memory (first_outside text found) (are_too_long found) is

  -- the first place out of range is at one place of the text
  one_place : (text : List ℕ) (at at' : ℕ) → HasOutside IsOne text at → HasOutside IsOne text at' → at ≡ at'
  one_place text at at' h k =
      let rows = one_row read IsOne g (h.before ++ h.number ∷ h.others) (k.before ++ k.number ∷ k.others) text h.places k.places in
      let fronts = one_front h.before h.number h.others k.before k.number k.others rows h.inside h.outside k.inside k.outside in
      sym h.begins ∙ ap (λ (ps : List (List ℕ)). length (40 ∷ flat_map followed ps)) fronts ∙ k.begins

  never_both : (text : List ℕ) (at : ℕ) (ps : List (List ℕ)) → HasOutside IsOne text at → Consists IsOne ps text → list_all has_range ps ≡ true → ⊥
  never_both text at ps h are inside =
      let rows = one_row read IsOne g (h.before ++ h.number ∷ h.others) ps text h.places are in
      not_inside h.before h.number h.others h.outside (ap (list_all has_range) rows ∙ inside)

  range_by : (o : Option ParseError) (text : List ℕ) (at : ℕ) → fault_of read text ≡ o → HasOutside IsOne text at → o ≡ Some (faults.Range at)
  range_by None text at e h = let a = none_accepted text e in absurd (never_both text at a.places h a.are a.inside)
  range_by (Some faults.TooLong) text at e h = let a = too_long_inside read IsOne g text e in absurd (never_both text at a.places h a.are a.inside)
  range_by (Some faults.OutOfMemory) text at e h = absurd (never_memory text e)
  range_by (Some (faults.Syntax n)) text at e h = absurd (shape_no_syntax read IsOne g text n (h.before ++ h.number ∷ h.others, h.places) e)
  range_by (Some (faults.Range n)) text at e h = ap (λ k. Some (faults.Range k)) (one_place text n at (range_outside read IsOne g text n e) h)

  pub outside_range : (text : List ℕ) (at : ℕ) → HasOutside IsOne text at → fault_of read text ≡ Some (faults.Range at)
  outside_range text at h = range_by (fault_of read text) text at refl h

  never_accepted : (text : List ℕ) → HasFine IsOne text → HasTooLong IsOne text → ⊥
  never_accepted text a h =
      let rows = one_row read IsOne g h.places a.places text h.are a.are in
      elim h.long [
        | inl many ↦ omega (arith, many, a.few, ap length rows)
        | inr long ↦ let never : true ≡ false = sym a.short ∙ ap (list_all is_short) (sym rows) ∙ long in absurd cc
      ]

  too_long_by : (o : Option ParseError) (text : List ℕ) → fault_of read text ≡ o → HasTooLong IsOne text → o ≡ Some faults.TooLong
  too_long_by None text e h = absurd (never_accepted text (none_accepted text e) h)
  too_long_by (Some faults.TooLong) text e h = refl
  too_long_by (Some faults.OutOfMemory) text e h = absurd (never_memory text e)
  too_long_by (Some (faults.Syntax n)) text e h = absurd (shape_no_syntax read IsOne g text n (h.places, h.are) e)
  too_long_by (Some (faults.Range n)) text e h = absurd (never_both text n h.places (range_outside read IsOne g text n e) h.are h.inside)

  pub long_too_long : (text : List ℕ) → HasTooLong IsOne text → fault_of read text ≡ Some faults.TooLong
  long_too_long text h = too_long_by (fault_of read text) text refl h
