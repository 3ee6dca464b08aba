-- The faults of a text's shape are those of the grammar.
-- Cited by Exact, Explained, Only, TextFaults, `laws::a_syntax_fault_is_at_the_longest_front`.
use Rattle.std.proofs.Common.{◌≡◌, ℕ, zero, suc, ◌-◌, ◌<◌, ◌≤◌, Bool, true, false, cond, eqb, List, [], ◌∷◌, ◌++◌, length, take, map}
use Rattle.std.proofs.Common.{Option, Some, None, Result, Ok, Err, refl, sym, ap, subst, ◌∙◌, append_assoc, arith, length-append}
use Rattle.std.proofs.lemmas.Bool.{eqb-true, eqb-false}
use Rattle.std.proofs.lemmas.List.{take_at}
use Rattle.kt_tuple.specs.declared.parse_error.ParseError.TheVariants as faults
use Rattle.kt_tuple.specs.Grammar.{Consists, IsTextOf, Begins}
use Rattle.kt_tuple.specs.Reading.{◌>>=◌, word_at}
use Rattle.kt_tuple.specs.Parsing.{Reader, places_from, places_in, first_outside, are_too_long, lower_fault, fault_of_places, fault_of}
use Rattle.kt_tuple.proofs.ValueLaws.{bound, word_taken}
use Rattle.kt_tuple.proofs.Shapes.{IsReaderOf}
use Rattle.kt_tuple.proofs.Layouts.{Laid, last, spelling, laid_consists, consists_laid, laid_length}
use Rattle.kt_tuple.proofs.TextStops.{NeverLaid, StopsLaid, stops_from, places_laid, laid_places}

-- no text of the shape begins with the front and the first byte of the rest
abbrev pub NeverShape : (List ℕ → Type 0) → List ℕ → List ℕ → Type 0
NeverShape IsOne front [] = Unit
NeverShape IsOne front (c ∷ cs) = (w : List ℕ) → IsTextOf IsOne (front ++ c ∷ w) → ⊥

abbrev pub StopsText : (List ℕ → Type 0) → List ℕ → List ℕ → Type 0
StopsText IsOne text rest = (front : List ℕ) × (text ≡ front ++ rest) × Begins (IsTextOf IsOne) front × NeverShape IsOne front rest

take_beyond : (front : List ℕ) (c : ℕ) (cs : List ℕ) (n : ℕ) → length front < n → (w : List ℕ) × (take n (front ++ c ∷ cs) ≡ front ++ c ∷ w)
take_beyond front c cs zero lt = absurd (omega (arith, lt))
take_beyond [] c cs (suc n) lt = (take n cs, refl)
take_beyond (f ∷ front) c cs (suc n) lt = let h = take_beyond front c cs n (omega (arith, lt)) in (h.0, ap (λ (t : List ℕ). f ∷ t) h.1)

-- a fault of places that were read is none of the shape
places_no_syntax : (o : Option ℕ) (b : Bool) (at : ℕ) → lower_fault o b ≡ Some (faults.Syntax at) → ⊥
places_no_syntax (Some n) b at e = absurd cc
places_no_syntax None true at e = absurd cc
places_no_syntax None false at e = absurd cc

syntax_err : (text : List ℕ) (r : Result (List (List ℕ × List ℕ)) (List ℕ)) (at : ℕ) → fault_of_places text r ≡ Some (faults.Syntax at)
    → (rest : List ℕ) × (r ≡ Err rest) × (length text - length rest ≡ at)
syntax_err text (Err rest) at e = (rest, refl, cc)
syntax_err text (Ok places) at e = absurd (places_no_syntax (first_outside text places) (are_too_long places) at e)

no_syntax_ok : (text : List ℕ) (r : Result (List (List ℕ × List ℕ)) (List ℕ))
    → ((at : ℕ) → fault_of_places text r ≡ Some (faults.Syntax at) → ⊥)
    → (places : List (List ℕ × List ℕ)) × (r ≡ Ok places)
no_syntax_ok text (Err rest) h = absurd (h (length text - length rest) refl)
no_syntax_ok text (Ok places) h = (places, refl)

module _ (read : Reader) (IsOne : List ℕ → Type 0) (g : IsReaderOf read IsOne) where
  -- what is laid out so is read, and what is read is laid out so
  pub shape_read : (ps : List (List ℕ)) (text : List ℕ) → Consists IsOne ps text → (found : List (List ℕ × List ℕ)) × (places_in read text ≡ Ok found)
      × (map spelling found ≡ ps)
  shape_read ps text h =
      let l = consists_laid ps text h in
      let found : places_in read (40 ∷ l.0) ≡ Ok l.1 = laid_places read IsOne g (suc (length l.0)) l.0 l.1 l.3 (omega (arith, laid_length l.1 l.0 l.3)) in
      (l.1, ap (places_in read) l.2 ∙ found, l.4)

  pub read_shape : (text : List ℕ) (found : List (List ℕ × List ℕ)) → places_in read text ≡ Ok found → (start : List ℕ) × (text ≡ 40 ∷ start)
      × Laid IsOne found start
  read_shape text found e =
      let start = bound (word_at text (40 ∷ [])) (λ start. places_from read (length text) start) found e in
      (start.0, word_taken text (40 ∷ []) start.0 start.1, places_laid read IsOne g (length text) start.0 found start.2)

  some_shape : (text : List ℕ) × IsTextOf IsOne text
  some_shape =
      let p = g.some.0 in
      (40 ∷ (p ++ 41 ∷ []), (p ∷ [], laid_consists ((p, p ++ 41 ∷ []) ∷ []) (p ++ 41 ∷ []) (last g.some.1)))

  never_behind : (front rest : List ℕ) → NeverLaid IsOne front rest → NeverShape IsOne (40 ∷ front) rest
  never_behind front [] never = tt
  never_behind front (c ∷ cs) never = λ w shape.
      let l = consists_laid shape.0 (40 ∷ (front ++ c ∷ w)) shape.1 in
      let same : l.0 ≡ front ++ c ∷ w = cc (l.2) in
      never w l.1 (subst (Laid IsOne l.1) same l.3)

  text_behind : (cs rest : List ℕ) → StopsLaid IsOne cs rest → StopsText IsOne (40 ∷ cs) rest
  text_behind cs rest h = (
    40 ∷ h.0,
    ap (λ (t : List ℕ). 40 ∷ t) h.1,
    (h.2.0, (map spelling h.2.1, laid_consists h.2.1 (h.0 ++ h.2.0) h.2.2)),
    never_behind h.0 rest h.3,
  )

  text_by_test : (b : Bool) (c : ℕ) (cs rest : List ℕ) → eqb 40 c ≡ b
      → (cond b (Ok cs) (Err (c ∷ cs)) >>= λ start. places_from read (length (c ∷ cs)) start) ≡ Err rest → StopsText IsOne (c ∷ cs) rest
  text_by_test true c cs rest e stops =
      subst (λ k. StopsText IsOne (k ∷ cs) rest) (eqb-true 40 c e) (text_behind cs rest (stops_from read IsOne g (length (c ∷ cs)) cs rest (omega arith) stops))
  text_by_test false c cs rest e stops =
      let same : c ∷ cs ≡ rest = cc in
      let here : StopsText IsOne (c ∷ cs) (c ∷ cs) = (
        [],
        refl,
        some_shape,
        λ w shape.
            let l = consists_laid shape.0 (c ∷ w) shape.1 in
            let first : c ≡ 40 = cc (l.2) in
            eqb-false 40 c e (sym first),
      ) in
      subst (StopsText IsOne (c ∷ cs)) same here

  nothing_read : (rest : List ℕ) → [] ≡ rest → StopsText IsOne [] rest
  nothing_read [] e = ([], refl, some_shape, tt)
  nothing_read (c ∷ cs) e = absurd cc

  text_stops : (text rest : List ℕ) → places_in read text ≡ Err rest → StopsText IsOne text rest
  text_stops [] rest e = nothing_read rest cc
  text_stops (c ∷ cs) rest e = text_by_test (eqb 40 c) c cs rest refl e

  -- a text of the shape has no fault of its shape
  pub shape_no_syntax : (text : List ℕ) (at : ℕ) → IsTextOf IsOne text → fault_of read text ≡ Some (faults.Syntax at) → ⊥
  shape_no_syntax text at shape e =
      let h = syntax_err text (places_in read text) at e in
      let found = shape_read shape.0 text shape.1 in
      let never : Ok found.0 ≡ Err h.0 = sym found.1 ∙ h.1 in
      absurd cc

  -- a text with no fault of its shape has the shape
  pub no_syntax_shape : (text : List ℕ) → ((at : ℕ) → fault_of read text ≡ Some (faults.Syntax at) → ⊥) → IsTextOf IsOne text
  no_syntax_shape text h =
      let places = no_syntax_ok text (places_in read text) h in
      let l = read_shape text places.0 places.1 in
      (map spelling places.0, subst (Consists IsOne (map spelling places.0)) (sym l.1) (laid_consists places.0 l.0 l.2))

  -- where a text stops: what stands before that, and the rest
  stops_at : (text : List ℕ) (at : ℕ) → fault_of read text ≡ Some (faults.Syntax at) → (rest : List ℕ) × (s : StopsText IsOne text rest) × (length s.0 ≡ at)
  stops_at text at e =
      let h = syntax_err text (places_in read text) at e in
      let s = text_stops text h.0 h.1 in
      (h.0, s, omega (arith, h.2, ap length s.1, length-append s.0 h.0))

  pub syntax_within : (text : List ℕ) (at : ℕ) → fault_of read text ≡ Some (faults.Syntax at) → at ≤ length text
  syntax_within text at e = let h = stops_at text at e in omega (arith, h.2, ap length h.1.1, length-append h.1.0 h.0)

  pub syntax_begins : (text : List ℕ) (at : ℕ) → fault_of read text ≡ Some (faults.Syntax at) → Begins (IsTextOf IsOne) (take at text)
  syntax_begins text at e =
      let h = stops_at text at e in
      let front : take at text ≡ h.1.0 = ap (λ n. take n text) (sym h.2) ∙ ap (take (length h.1.0)) h.1.1 ∙ take_at h.1.0 h.0 (length h.1.0) refl in
      subst (Begins (IsTextOf IsOne)) (sym front) h.1.2

  longer : (front rest : List ℕ) (n : ℕ) → NeverShape IsOne front rest → length front < n → n ≤ length (front ++ rest)
      → Begins (IsTextOf IsOne) (take n (front ++ rest)) → ⊥
  longer front [] n never lt le begins = absurd (omega (arith, lt, le, length-append front []))
  longer front (c ∷ cs) n never lt le begins =
      let w = take_beyond front c cs n lt in
      let whole : take n (front ++ c ∷ cs) ++ begins.0 ≡ front ++ c ∷ (w.0 ++ begins.0) =
      ap (λ (t : List ℕ). t ++ begins.0) w.1 ∙ append_assoc front (c ∷ w.0) begins.0 in
      never (w.0 ++ begins.0) (subst (IsTextOf IsOne) whole begins.1)

  pub syntax_longest : (text : List ℕ) (at n : ℕ) → fault_of read text ≡ Some (faults.Syntax at) → at < n → n ≤ length text
      → Begins (IsTextOf IsOne) (take n text) → ⊥
  syntax_longest text at n e lt le begins =
      let h = stops_at text at e in
      longer h.1.0 h.0 n h.1.3 (omega (arith, h.2, lt)) (omega (arith, le, ap length h.1.1))
      (subst (λ (t : List ℕ). Begins (IsTextOf IsOne) (take n t)) h.1.1 begins)

  -- a text has one row of places
  pub one_row : (ps qs : List (List ℕ)) (text : List ℕ) → Consists IsOne ps text → Consists IsOne qs text → ps ≡ qs
  one_row ps qs text h k =
      let a = shape_read ps text h in
      let b = shape_read qs text k in
      let both : Ok a.0 ≡ Ok b.0 = sym a.1 ∙ b.1 in
      let same : a.0 ≡ b.0 = cc in
      sym a.2 ∙ ap (map spelling) same ∙ b.2
