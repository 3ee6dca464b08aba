-- How the places of a text stand behind each other, up to the closing parenthesis.
-- Cited by Exact, TextFaults, TextShapes, TextStops.
use Rattle.std.proofs.Common.{◌≡◌, ℕ, ◌≤◌, Bool, true, false, eqb, List, [], ◌∷◌, ◌++◌, length, map, Option, Some}
use Rattle.std.proofs.Common.{None, Result, Ok, Err, refl, sym, ap, subst, ◌∙◌, append_assoc, arith, length-append}
use Rattle.std.proofs.lemmas.Bool.{eqb-true}
use Rattle.std.specs.Prelude.{codes}
use Rattle.kt_tuple.specs.Grammar.{Separated, one, more, Consists, in_parentheses}
use Rattle.kt_tuple.specs.Reading.{◌>>=◌, word_at, after_place}
use Rattle.kt_tuple.proofs.Shapes.{Halts, Stops, halts_as, stops_nil}
use Rattle.kt_tuple.proofs.WordShapes.{word_stops}

-- the places of a text, each with the text from it on
pub data Laid (IsOne : List ℕ → Type 0) : List (List ℕ × List ℕ) → List ℕ → Type 0 where
  last : {p : List ℕ} → IsOne p → Laid IsOne ((p, p ++ 41 ∷ []) ∷ []) (p ++ 41 ∷ [])
  next : {p text : List ℕ} {found : List (List ℕ × List ℕ)} → IsOne p → Laid IsOne found text
      → Laid IsOne ((p, p ++ 44 ∷ 32 ∷ text) ∷ found) (p ++ 44 ∷ 32 ∷ text)

-- what may stand behind a place
pub data Follows (IsOne : List ℕ → Type 0) : List ℕ → Type 0 where
  closed : Follows IsOne (41 ∷ [])
  further : {text : List ℕ} {found : List (List ℕ × List ℕ)} → Laid IsOne found text → Follows IsOne (44 ∷ 32 ∷ text)

abbrev pub spelling : List ℕ × List ℕ → List ℕ
spelling x = x.0

pub laid_text : {IsOne : List ℕ → Type 0} (found : List (List ℕ × List ℕ)) (text : List ℕ) → Laid IsOne found text
    → (inner : List ℕ) × Separated IsOne (map spelling found) inner × (text ≡ inner ++ 41 ∷ [])
laid_text found text (last {p} h) = (p, one h, refl)
laid_text found text (next {p} {text = behind} {found = others} h l) =
    let more_of = laid_text others behind l in (
      p ++ 44 ∷ 32 ∷ more_of.0,
      more h more_of.1,
      ap (λ (t : List ℕ). p ++ 44 ∷ 32 ∷ t) more_of.2 ∙ sym (append_assoc p (44 ∷ 32 ∷ more_of.0) (41 ∷ [])),
    )

pub laid_consists : {IsOne : List ℕ → Type 0} (found : List (List ℕ × List ℕ)) (text : List ℕ) → Laid IsOne found text
    → Consists IsOne (map spelling found) (40 ∷ text)
laid_consists {IsOne} found text l =
    let h = laid_text found text l in
    subst (λ (t : List ℕ). Consists IsOne (map spelling found) (40 ∷ t)) (sym h.2) (in_parentheses h.1)

text_laid : {IsOne : List ℕ → Type 0} (ps : List (List ℕ)) (inner : List ℕ) → Separated IsOne ps inner → (found : List (List ℕ × List ℕ))
    × Laid IsOne found (inner ++ 41 ∷ []) × (map spelling found ≡ ps)
text_laid ps inner (one {p} h) = ((p, p ++ 41 ∷ []) ∷ [], last h, refl)
text_laid {IsOne} ps inner (more {p} {text} {ps = others} h s) =
    let l = text_laid others text s in
    let found = (p, p ++ 44 ∷ 32 ∷ (text ++ 41 ∷ [])) ∷ l.0 in
    (found, subst (Laid IsOne found) (sym (append_assoc p (44 ∷ 32 ∷ text) (41 ∷ []))) (next h l.1), ap (λ (qs : List (List ℕ)). p ∷ qs) l.2)

pub consists_laid : {IsOne : List ℕ → Type 0} (ps : List (List ℕ)) (text : List ℕ) → Consists IsOne ps text
    → (start : List ℕ) × (found : List (List ℕ × List ℕ)) × (text ≡ 40 ∷ start) × Laid IsOne found start × (map spelling found ≡ ps)
consists_laid ps text (in_parentheses {text = inner} s) = let l = text_laid ps inner s in (inner ++ 41 ∷ [], l.0, refl, l.1, l.2)

pub laid_length : {IsOne : List ℕ → Type 0} (found : List (List ℕ × List ℕ)) (text : List ℕ) → Laid IsOne found text → length found ≤ length text
laid_length found text (last {p} h) = omega (arith, length-append p (41 ∷ []))
laid_length found text (next {p} {text = behind} {found = others} h l) = omega (arith, length-append p (44 ∷ 32 ∷ behind), laid_length others behind l)

-- a place and what may stand behind it
pub laid_with : {IsOne : List ℕ → Type 0} (p t : List ℕ) → IsOne p → Follows IsOne t → (found : List (List ℕ × List ℕ)) × Laid IsOne found (p ++ t)
laid_with p t h closed = ((p, p ++ 41 ∷ []) ∷ [], last h)
laid_with p t h (further {text} {found} l) = ((p, p ++ 44 ∷ 32 ∷ text) ∷ found, next h l)

pub follows_read : {IsOne : List ℕ → Type 0} (t : List ℕ) → Follows IsOne t → (o : Option (List ℕ)) × (after_place t ≡ Ok o)
unfolding after_place
follows_read t closed = (None, refl)
follows_read t (further {text} l) = (Some text, refl)

pub follows_further : {IsOne : List ℕ → Type 0} (t text : List ℕ) → Follows IsOne t → t ≡ 44 ∷ 32 ∷ text → (found : List (List ℕ × List ℕ))
    × Laid IsOne found text
follows_further t text closed e = absurd cc
follows_further {IsOne} t text (further {text = behind} {found} l) e =
    let same : behind ≡ text = cc in
    (found, subst (Laid IsOne found) same l)

-- a comma and a space
comma_halts : (front rest : List ℕ) → Halts (λ t. word_at t (codes ", ")) front rest
    → Halts (λ t. word_at t (codes ", ") >>= λ (following : List ℕ). Ok (Some following)) front rest
comma_halts front [] h = tt
comma_halts front (d ∷ ds) h = λ w. rw (h w) refl

comma_err : (text rest : List ℕ) (r : Result (List ℕ) (List ℕ)) → (r >>= λ (following : List ℕ). Ok (Some following)) ≡ Err rest → r ≡ Err rest
comma_err text rest (Ok following) e = absurd cc
comma_err text rest (Err d) e = cc

module _ (IsOne : List ℕ → Type 0) (p : List ℕ) (is : IsOne p) where
  comma_stops : (c : ℕ) (cs rest : List ℕ) → eqb c 41 ≡ false → word_at (c ∷ cs) (codes ", ") ≡ Err rest → Stops after_place (Follows IsOne) (c ∷ cs) rest
  unfolding after_place
  comma_stops c cs rest e read =
      let h = word_stops (codes ", ") (c ∷ cs) rest read in
      let text = p ++ 41 ∷ [] in
      let whole : h.0 ++ (h.2.0 ++ text) ≡ 44 ∷ 32 ∷ text = sym (append_assoc h.0 h.2.0 text) ∙ ap (λ (t : List ℕ). t ++ text) h.2.1 in
      let behind : Follows IsOne (44 ∷ 32 ∷ text) = further (last is) in (
        h.0,
        h.1,
        (h.2.0 ++ text, subst (Follows IsOne) (sym whole) behind),
        halts_as after_place (λ t. word_at t (codes ", ") >>= λ (following : List ℕ). Ok (Some following)) c (λ w. rw e refl) cs h.0 rest h.1
            (comma_halts h.0 rest h.3),
      )

  after_by_test : (b : Bool) (c : ℕ) (cs rest : List ℕ) → eqb c 41 ≡ b → after_place (c ∷ cs) ≡ Err rest → Stops after_place (Follows IsOne) (c ∷ cs) rest
  unfolding after_place
  after_by_test true c [] rest e read = let never = rw e at read in absurd cc
  after_by_test true c (d ∷ ds) rest e read =
      let same : d ∷ ds ≡ rest = cc (rw e at read) in
      let stops : Stops after_place (Follows IsOne) (c ∷ d ∷ ds) (d ∷ ds) = (41 ∷ [], ap (λ k. k ∷ d ∷ ds) (eqb-true c 41 e), ([], closed), λ w. refl) in
      subst (Stops after_place (Follows IsOne) (c ∷ d ∷ ds)) same stops
  after_by_test false c cs rest e read = comma_stops c cs rest e (comma_err (c ∷ cs) rest (word_at (c ∷ cs) (codes ", ")) (rw e at read))

  pub after_stops : (text rest : List ℕ) → after_place text ≡ Err rest → Stops after_place (Follows IsOne) text rest
  unfolding after_place
  after_stops [] rest e = stops_nil after_place (Follows IsOne) rest (41 ∷ [], closed) cc
  after_stops (c ∷ cs) rest e = after_by_test (eqb c 41) c cs rest refl e
