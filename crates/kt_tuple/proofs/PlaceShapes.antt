-- The readers of values and places read those of the grammar.
-- Cited by Explained, `laws::a_syntax_fault_is_at_the_longest_front`, `laws::a_text_of_the_shape_has_these_faults`.
use Rattle.std.proofs.Common.{◌≡◌, ℕ, Bool, true, false, cond, eqb, List, [], ◌∷◌, ◌++◌, Ok, Err, refl, sym, subst, ◌∙◌, arith}
use Rattle.std.proofs.lemmas.Bool.{ne_eqb}
use Rattle.std.specs.Prelude.{codes}
use Rattle.kt_tuple.specs.Grammar.{IsInt, just_zero, positive, negative, IsStr, quoted, IsValueText, int, str, is_true, is_false}
use Rattle.kt_tuple.specs.Grammar.{IsPlaceText, actual, any_int, any_str, any_bool}
use Rattle.kt_tuple.specs.Reading.{begins_with_digit, spelled_at, int_at, str_at, value_at, formal_at, place_at}
use Rattle.kt_tuple.proofs.Shapes.{Took, Stops, IsReaderOf, took_as, stops_as, stops_nil}
use Rattle.kt_tuple.proofs.IntShapes.{one_int, int_read, int_takes, int_stops, int_none, int_nil}
use Rattle.kt_tuple.proofs.StrShapes.{str_read, str_takes, str_stops}
use Rattle.kt_tuple.proofs.WordShapes.{spelled_read, spelled_takes, spelled_stops}
use Rattle.kt_tuple.proofs.FormalShapes.{int_formal, str_formal, bool_formal, formal_takes, formal_stops}

one_value : (p : List ℕ) × IsValueText p
one_value = (one_int.0, int one_int.1)

value_is_str : (c : ℕ) → eqb c 34 ≡ true → (w : List ℕ) → value_at (c ∷ w) ≡ str_at (c ∷ w)
unfolding value_at
value_is_str c e w = rw e refl

value_is_true : (c : ℕ) → eqb c 34 ≡ false → eqb c 116 ≡ true → (w : List ℕ) → value_at (c ∷ w) ≡ spelled_at (c ∷ w) (codes "true")
unfolding value_at
value_is_true c no_quote is_t w = rw (no_quote, is_t) refl

value_is_false : (c : ℕ) → eqb c 34 ≡ false → eqb c 116 ≡ false → eqb c 102 ≡ true → (w : List ℕ) → value_at (c ∷ w) ≡ spelled_at (c ∷ w) (codes "false")
unfolding value_at
value_is_false c no_quote no_t is_f w = rw (no_quote, no_t, is_f) refl

value_is_int : (c : ℕ) → eqb c 34 ≡ false → eqb c 116 ≡ false → eqb c 102 ≡ false → (w : List ℕ) → value_at (c ∷ w) ≡ int_at (c ∷ w)
unfolding value_at
value_is_int c no_quote no_t no_f w = rw (no_quote, no_t, no_f) refl

-- a text that is one of these words
true_word : (p : List ℕ) → p ≡ codes "true" → IsValueText p
true_word p e = subst IsValueText (sym e) is_true

false_word : (p : List ℕ) → p ≡ codes "false" → IsValueText p
false_word p e = subst IsValueText (sym e) is_false

-- what is read of a text that begins with this byte, as the three tests of it say
value_by_test : (quote t f : Bool) (c : ℕ) (cs : List ℕ) (x : List ℕ × List ℕ) → eqb c 34 ≡ quote → eqb c 116 ≡ t → eqb c 102 ≡ f
    → cond quote (str_at (c ∷ cs)) (cond t (spelled_at (c ∷ cs) (codes "true")) (cond f (spelled_at (c ∷ cs) (codes "false")) (int_at (c ∷ cs)))) ≡ Ok x
    → Took value_at IsValueText (c ∷ cs) x
value_by_test true t f c cs x is_quote is_t is_f read =
    took_as value_at str_at IsValueText IsStr c cs x (value_is_str c is_quote) (λ p h. str h) (str_takes (c ∷ cs) x read)
value_by_test false true f c cs x no_quote is_t is_f read =
    took_as value_at (λ t. spelled_at t (codes "true")) IsValueText (λ t. t ≡ codes "true") c cs x (value_is_true c no_quote is_t) true_word
    (spelled_takes (codes "true") (c ∷ cs) x (λ w. refl) read)
value_by_test false false true c cs x no_quote no_t is_f read =
    took_as value_at (λ t. spelled_at t (codes "false")) IsValueText (λ t. t ≡ codes "false") c cs x (value_is_false c no_quote no_t is_f) false_word
    (spelled_takes (codes "false") (c ∷ cs) x (λ w. refl) read)
value_by_test false false false c cs x no_quote no_t no_f read =
    took_as value_at int_at IsValueText IsInt c cs x (value_is_int c no_quote no_t no_f) (λ p h. int h) (int_takes (c ∷ cs) x read)

value_takes : (text : List ℕ) (x : List ℕ × List ℕ) → value_at text ≡ Ok x → Took value_at IsValueText text x
unfolding value_at
value_takes [] x e = absurd (int_none x e)
value_takes (c ∷ cs) x e = value_by_test (eqb c 34) (eqb c 116) (eqb c 102) c cs x refl refl refl e

value_by_fault : (quote t f : Bool) (c : ℕ) (cs rest : List ℕ) → eqb c 34 ≡ quote → eqb c 116 ≡ t → eqb c 102 ≡ f
    → cond quote (str_at (c ∷ cs)) (cond t (spelled_at (c ∷ cs) (codes "true")) (cond f (spelled_at (c ∷ cs) (codes "false")) (int_at (c ∷ cs)))) ≡ Err rest
    → Stops value_at IsValueText (c ∷ cs) rest
value_by_fault true t f c cs rest is_quote is_t is_f read =
    stops_as value_at str_at IsValueText IsStr c cs rest (value_is_str c is_quote) (λ p h. str h) (str_stops (c ∷ cs) rest read)
value_by_fault false true f c cs rest no_quote is_t is_f read =
    stops_as value_at (λ t. spelled_at t (codes "true")) IsValueText (λ t. t ≡ codes "true") c cs rest (value_is_true c no_quote is_t) true_word
    (spelled_stops (codes "true") (c ∷ cs) rest read)
value_by_fault false false true c cs rest no_quote no_t is_f read =
    stops_as value_at (λ t. spelled_at t (codes "false")) IsValueText (λ t. t ≡ codes "false") c cs rest (value_is_false c no_quote no_t is_f) false_word
    (spelled_stops (codes "false") (c ∷ cs) rest read)
value_by_fault false false false c cs rest no_quote no_t no_f read =
    stops_as value_at int_at IsValueText IsInt c cs rest (value_is_int c no_quote no_t no_f) (λ p h. int h) (int_stops (c ∷ cs) rest read)

value_stops : (text rest : List ℕ) → value_at text ≡ Err rest → Stops value_at IsValueText text rest
unfolding value_at
value_stops [] rest e = stops_nil value_at IsValueText rest one_value (int_nil rest e)
value_stops (c ∷ cs) rest e = value_by_fault (eqb c 34) (eqb c 116) (eqb c 102) c cs rest refl refl refl e

value_read : (p rest : List ℕ) → IsValueText p → begins_with_digit rest ≡ false → value_at (p ++ rest) ≡ Ok (p, rest)
unfolding value_at
value_read p rest (int just_zero) end = int_read (48 ∷ []) rest just_zero end
value_read p rest (int (positive {c} {ds} first digits)) end =
    value_is_int c (ne_eqb c 34 (λ e. omega (arith, first.0, e))) (ne_eqb c 116 (λ e. omega (arith, first.1, e)))
    (ne_eqb c 102 (λ e. omega (arith, first.1, e))) (ds ++ rest) ∙ int_read (c ∷ ds) rest (positive first digits) end
value_read p rest (int (negative {c} {ds} first digits)) end = int_read (45 ∷ c ∷ ds) rest (negative first digits) end
value_read p rest (str (quoted {cs} h)) end = str_read (34 ∷ (cs ++ 34 ∷ [])) rest (quoted h)
value_read p rest is_true end = spelled_read (codes "true") rest (λ w. refl)
value_read p rest is_false end = spelled_read (codes "false") rest (λ w. refl)

pub values_shape : IsReaderOf value_at IsValueText
values_shape = record { some = one_value; takes = value_takes; reads = value_read; stops = value_stops }

place_is_formal : (c : ℕ) → eqb c 63 ≡ true → (w : List ℕ) → place_at (c ∷ w) ≡ formal_at (c ∷ w)
unfolding place_at
place_is_formal c e w = rw e refl

place_is_value : (c : ℕ) → eqb c 63 ≡ false → (w : List ℕ) → place_at (c ∷ w) ≡ value_at (c ∷ w)
unfolding place_at
place_is_value c e w = rw e refl

place_by_test : (b : Bool) (c : ℕ) (cs : List ℕ) (x : List ℕ × List ℕ) → eqb c 63 ≡ b → cond b (formal_at (c ∷ cs)) (value_at (c ∷ cs)) ≡ Ok x
    → Took place_at IsPlaceText (c ∷ cs) x
place_by_test true c cs x e read = took_as place_at formal_at IsPlaceText IsPlaceText c cs x (place_is_formal c e) (λ p h. h) (formal_takes (c ∷ cs) x read)
place_by_test false c cs x e read =
    took_as place_at value_at IsPlaceText IsValueText c cs x (place_is_value c e) (λ p h. actual h) (value_takes (c ∷ cs) x read)

value_none : (x : List ℕ × List ℕ) → value_at [] ≡ Ok x → ⊥
unfolding value_at
value_none x e = int_none x e

value_nil : (rest : List ℕ) → value_at [] ≡ Err rest → [] ≡ rest
unfolding value_at
value_nil rest e = int_nil rest e

place_takes : (text : List ℕ) (x : List ℕ × List ℕ) → place_at text ≡ Ok x → Took place_at IsPlaceText text x
unfolding place_at
place_takes [] x e = absurd (value_none x e)
place_takes (c ∷ cs) x e = place_by_test (eqb c 63) c cs x refl e

place_by_fault : (b : Bool) (c : ℕ) (cs rest : List ℕ) → eqb c 63 ≡ b → cond b (formal_at (c ∷ cs)) (value_at (c ∷ cs)) ≡ Err rest
    → Stops place_at IsPlaceText (c ∷ cs) rest
place_by_fault true c cs rest e read =
    stops_as place_at formal_at IsPlaceText IsPlaceText c cs rest (place_is_formal c e) (λ p h. h) (formal_stops (c ∷ cs) rest read)
place_by_fault false c cs rest e read =
    stops_as place_at value_at IsPlaceText IsValueText c cs rest (place_is_value c e) (λ p h. actual h) (value_stops (c ∷ cs) rest read)

place_stops : (text rest : List ℕ) → place_at text ≡ Err rest → Stops place_at IsPlaceText text rest
unfolding place_at
place_stops [] rest e = stops_nil place_at IsPlaceText rest (codes "?int", any_int) (value_nil rest e)
place_stops (c ∷ cs) rest e = place_by_fault (eqb c 63) c cs rest refl e

-- a value begins with no question mark
place_of_value : (p rest : List ℕ) → IsValueText p → place_at (p ++ rest) ≡ value_at (p ++ rest)
unfolding place_at
place_of_value p rest (int just_zero) = refl
place_of_value p rest (int (positive {c} {ds} first digits)) = place_is_value c (ne_eqb c 63 (λ e. omega (arith, first.1, e))) (ds ++ rest)
place_of_value p rest (int (negative first digits)) = refl
place_of_value p rest (str (quoted h)) = refl
place_of_value p rest is_true = refl
place_of_value p rest is_false = refl

place_read : (p rest : List ℕ) → IsPlaceText p → begins_with_digit rest ≡ false → place_at (p ++ rest) ≡ Ok (p, rest)
unfolding place_at
place_read p rest (actual h) end = place_of_value p rest h ∙ value_read p rest h end
place_read p rest any_int end = int_formal rest
place_read p rest any_str end = str_formal rest
place_read p rest any_bool end = bool_formal rest

pub places_shape : IsReaderOf place_at IsPlaceText
places_shape = record { some = (codes "?int", any_int); takes = place_takes; reads = place_read; stops = place_stops }
