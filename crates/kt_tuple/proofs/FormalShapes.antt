-- The reader of formals reads `?int`, `?str` and `?bool`.
-- Cited by PlaceShapes.
use Rattle.std.proofs.Common.{◌≡◌, ℕ, Bool, true, false, cond, inl, inr, eqb, List, [], ◌∷◌, ◌++◌, Ok, Err, refl, sym, ap, subst, ◌∙◌}
use Rattle.std.proofs.lemmas.Bool.{eqb-true}
use Rattle.std.specs.Prelude.{codes}
use Rattle.kt_tuple.specs.Grammar.{IsPlaceText, any_int, any_str, any_bool}
use Rattle.kt_tuple.specs.Reading.{◌>>=◌, word_at, after_kind, split_before, formal_at}
use Rattle.kt_tuple.proofs.IntLaws.{split_front}
use Rattle.kt_tuple.proofs.ValueLaws.{bound, word_taken}
use Rattle.kt_tuple.proofs.WordShapes.{word_stops}
use Rattle.kt_tuple.proofs.Shapes.{Again, Halts, Took, Stops, took_split, halts_as, stops_nil, stops_here, bound_err}

-- a kind behind a question mark
abbrev IsKind : List ℕ → Type 0
IsKind kind = IsPlaceText (63 ∷ kind)

kind_by_word : (word : List ℕ) (c : ℕ) (cs rest : List ℕ) → IsKind word → ((w : List ℕ) → after_kind (c ∷ w) ≡ word_at (c ∷ w) word)
    → word_at (c ∷ cs) word ≡ Err rest → Stops after_kind IsKind (c ∷ cs) rest
kind_by_word word c cs rest is same e =
    let h = word_stops word (c ∷ cs) rest e in
    (h.0, h.1, (h.2.0, subst IsKind (sym h.2.1) is), halts_as after_kind (λ t. word_at t word) c same cs h.0 rest h.1 h.3)

kind_by_fault : (i b : Bool) (c : ℕ) (cs rest : List ℕ) → eqb c 105 ≡ i → eqb c 98 ≡ b
    → cond i (word_at (c ∷ cs) (codes "int")) (cond b (word_at (c ∷ cs) (codes "bool")) (word_at (c ∷ cs) (codes "str"))) ≡ Err rest
    → Stops after_kind IsKind (c ∷ cs) rest
kind_by_fault true b c cs rest is_i is_b read = kind_by_word (codes "int") c cs rest any_int (λ w. rw is_i refl) read
kind_by_fault false true c cs rest is_i is_b read = kind_by_word (codes "bool") c cs rest any_bool (λ w. rw (is_i, is_b) refl) read
kind_by_fault false false c cs rest is_i is_b read = kind_by_word (codes "str") c cs rest any_str (λ w. rw (is_i, is_b) refl) read

kind_stops : (text rest : List ℕ) → after_kind text ≡ Err rest → Stops after_kind IsKind text rest
kind_stops [] rest e = stops_nil after_kind IsKind rest (codes "int", any_int) cc
kind_stops (c ∷ cs) rest e = kind_by_fault (eqb c 105) (eqb c 98) c cs rest refl refl e

pub formal_read : (k rest : List ℕ) → after_kind (k ++ rest) ≡ Ok rest → formal_at (63 ∷ (k ++ rest)) ≡ Ok (63 ∷ k, rest)
unfolding formal_at
formal_read k rest read = rw read (ap (λ (x : List ℕ × List ℕ). Ok x) (split_front (63 ∷ k) rest))

-- the kinds, whatever follows
pub int_formal : (rest : List ℕ) → formal_at (codes "?int" ++ rest) ≡ Ok (codes "?int", rest)
int_formal rest = formal_read (codes "int") rest refl

pub str_formal : (rest : List ℕ) → formal_at (codes "?str" ++ rest) ≡ Ok (codes "?str", rest)
str_formal rest = formal_read (codes "str") rest refl

pub bool_formal : (rest : List ℕ) → formal_at (codes "?bool" ++ rest) ≡ Ok (codes "?bool", rest)
bool_formal rest = formal_read (codes "bool") rest refl

again_by : (p rest : List ℕ) → ((w : List ℕ) → formal_at (p ++ w) ≡ Ok (p, w)) → Again formal_at p rest
again_by p [] read = tt
again_by p (d ∷ ds) read = λ w. read (d ∷ w)

kind_again : (text rest : List ℕ) → after_kind text ≡ Ok rest → (k : List ℕ) × (text ≡ k ++ rest) × IsKind k × Again formal_at (63 ∷ k) rest
kind_again [] rest e = absurd cc
kind_again (c ∷ cs) rest e = by (eqb c 105) (eqb c 98) e
  where
    by : (i b : Bool) → cond i (word_at (c ∷ cs) (codes "int")) (cond b (word_at (c ∷ cs) (codes "bool")) (word_at (c ∷ cs) (codes "str"))) ≡ Ok rest
        → (k : List ℕ) × (c ∷ cs ≡ k ++ rest) × IsKind k × Again formal_at (63 ∷ k) rest
    by true b read = (codes "int", word_taken (c ∷ cs) (codes "int") rest read, any_int, again_by (codes "?int") rest int_formal)
    by false true read = (codes "bool", word_taken (c ∷ cs) (codes "bool") rest read, any_bool, again_by (codes "?bool") rest bool_formal)
    by false false read = (codes "str", word_taken (c ∷ cs) (codes "str") rest read, any_str, again_by (codes "?str") rest str_formal)

pub formal_takes : (text : List ℕ) (x : List ℕ × List ℕ) → formal_at text ≡ Ok x → Took formal_at IsPlaceText text x
unfolding formal_at
formal_takes text x e =
    let behind = bound (word_at text (63 ∷ [])) (λ kind. after_kind kind >>= λ after. Ok (split_before text after)) x e in
    let after = bound (after_kind behind.0) (λ after. Ok (split_before text after)) x behind.2 in
    let kind = kind_again behind.0 after.0 after.1 in
    let whole : text ≡ (63 ∷ kind.0) ++ after.0 = word_taken text (63 ∷ []) behind.0 behind.1 ∙ ap (λ (t : List ℕ). 63 ∷ t) kind.1 in
    let split : split_before text after.0 ≡ x = cc (after.2) in
    took_split formal_at IsPlaceText text (63 ∷ kind.0) after.0 x whole split kind.2 kind.3

formal_halts : (front rest : List ℕ) → Halts after_kind front rest → Halts formal_at (63 ∷ front) rest
unfolding formal_at
formal_halts front [] h = tt
formal_halts front (d ∷ ds) h = λ w. rw (h w) refl

stops_behind : (cs rest : List ℕ) → Stops after_kind IsKind cs rest → Stops formal_at IsPlaceText (63 ∷ cs) rest
stops_behind cs rest h = (63 ∷ h.0, ap (λ (t : List ℕ). 63 ∷ t) h.1, h.2, formal_halts h.0 rest h.3)

behind_err : (text cs rest : List ℕ) → (after_kind cs >>= λ after. Ok (split_before text after)) ≡ Err rest → after_kind cs ≡ Err rest
behind_err text cs rest e = elim (bound_err (after_kind cs) (λ after. Ok (split_before text after)) rest e) [
  | inl h ↦ h
  | inr h ↦ let never : Ok (split_before text h.0) ≡ Err rest = h.2 in absurd cc
]

formal_by_test : (b : Bool) (c : ℕ) (cs rest : List ℕ) → eqb 63 c ≡ b
    → (cond b (Ok cs) (Err (c ∷ cs)) >>= λ kind. after_kind kind >>= λ after. Ok (split_before (c ∷ cs) after)) ≡ Err rest
    → Stops formal_at IsPlaceText (c ∷ cs) rest
unfolding formal_at
formal_by_test true c cs rest e read =
    subst (λ k. Stops formal_at IsPlaceText (k ∷ cs) rest) (eqb-true 63 c e) (stops_behind cs rest (kind_stops cs rest (behind_err (c ∷ cs) cs rest read)))
formal_by_test false c cs rest e read = stops_here formal_at IsPlaceText c cs rest (codes "?int", any_int) (cc) (λ w. rw e refl)

pub formal_stops : (text rest : List ℕ) → formal_at text ≡ Err rest → Stops formal_at IsPlaceText text rest
unfolding formal_at
formal_stops [] rest e = stops_nil formal_at IsPlaceText rest (codes "?int", any_int) cc
formal_stops (c ∷ cs) rest e = formal_by_test (eqb 63 c) c cs rest refl e
