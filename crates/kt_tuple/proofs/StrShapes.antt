-- The reader of strs reads the strs of the grammar.
-- Cited by PlaceShapes.
use Rattle.std.proofs.Common.{◌≡◌, ℕ, Bool, true, false, cond, ◌||◌, inl, inr, eqb, leb, List, [], ◌∷◌, ◌++◌, Ok, Err, refl, sym, ap, subst, ◌∙◌, append_assoc}
use Rattle.std.proofs.lemmas.Bool.{ne_eqb, eqb-true, eqb-false, leb-true, le-leb, and_parts, and_from}
use Rattle.kt_tuple.specs.Grammar.{IsPlain, IsCharacters, none, plain, quote, backslash, IsStr, quoted}
use Rattle.kt_tuple.specs.Reading.{◌>>=◌, word_at, is_printable, is_escaped, after_characters, split_before, str_at}
use Rattle.kt_tuple.proofs.IntLaws.{split_front}
use Rattle.kt_tuple.proofs.ValueLaws.{bound, word_taken}
use Rattle.kt_tuple.proofs.Shapes.{Again, Halts, Took, Stops, took_split, stops_nil, stops_here, bound_err}

-- what stands in front of the characters: the backslash of an escaped one
abbrev escape : Bool → List ℕ
escape true = 92 ∷ []
escape false = []

abbrev Body : Bool → List ℕ → List ℕ → Type 0
Body behind text rest = (body : List ℕ) × (text ≡ body ++ 34 ∷ rest) × IsCharacters (escape behind ++ body)

-- what stands before the rest begins characters, and goes no further
abbrev Open : Bool → List ℕ → List ℕ → Type 0
Open behind text rest =
    (front : List ℕ) × (text ≡ front ++ rest) × ((more : List ℕ) × IsCharacters (escape behind ++ (front ++ more))) × Halts (after_characters behind) front rest

is_plain : (c : ℕ) → eqb c 34 ≡ false → eqb c 92 ≡ false → is_printable c ≡ true → IsPlain c
is_plain c no_quote no_backslash e =
    let h = and_parts (leb 32 c) (leb c 126) e in
    ((leb-true 32 c h.0, leb-true c 126 h.1), eqb-false c 34 no_quote, eqb-false c 92 no_backslash)

escaped_by_test : (b d : Bool) (c : ℕ) (cs : List ℕ) → eqb c 34 ≡ b → eqb c 92 ≡ d → (b || d) ≡ true → IsCharacters cs → IsCharacters (92 ∷ c ∷ cs)
escaped_by_test true d c cs e f h more = subst (λ k. IsCharacters (92 ∷ k ∷ cs)) (sym (eqb-true c 34 e)) (quote more)
escaped_by_test false true c cs e f h more = subst (λ k. IsCharacters (92 ∷ k ∷ cs)) (sym (eqb-true c 92 f)) (backslash more)
escaped_by_test false false c cs e f h more = absurd cc

escaped : (c : ℕ) (cs : List ℕ) → is_escaped c ≡ true → IsCharacters cs → IsCharacters (92 ∷ c ∷ cs)
escaped c cs e more = escaped_by_test (eqb c 34) (eqb c 92) c cs refl refl e more

-- what is done with the byte behind a backslash
escaped_taken : (b : Bool) (c : ℕ) (cs rest : List ℕ) → is_escaped c ≡ b → (after_characters false cs ≡ Ok rest → Body false cs rest)
    → cond b (after_characters false cs) (Err (c ∷ cs)) ≡ Ok rest → Body true (c ∷ cs) rest
escaped_taken true c cs rest e behind read = let h = behind read in (c ∷ h.0, ap (λ (t : List ℕ). c ∷ t) h.1, escaped c h.0 e h.2)
escaped_taken false c cs rest e behind read = absurd cc

plain_taken : (b : Bool) (c : ℕ) (cs rest : List ℕ) → eqb c 34 ≡ false → eqb c 92 ≡ false → is_printable c ≡ b
    → (after_characters false cs ≡ Ok rest → Body false cs rest)
    → cond b (after_characters false cs) (Err (c ∷ cs)) ≡ Ok rest → Body false (c ∷ cs) rest
plain_taken true c cs rest no_quote no_backslash e behind read =
    let h = behind read in (c ∷ h.0, ap (λ (t : List ℕ). c ∷ t) h.1, plain (is_plain c no_quote no_backslash e) h.2)
plain_taken false c cs rest no_quote no_backslash e behind read = absurd cc

backslash_taken : (b : Bool) (c : ℕ) (cs rest : List ℕ) → eqb c 34 ≡ false → eqb c 92 ≡ b → ((d : Bool) → after_characters d cs ≡ Ok rest → Body d cs rest)
    → cond b (after_characters true cs) (cond (is_printable c) (after_characters false cs) (Err (c ∷ cs))) ≡ Ok rest → Body false (c ∷ cs) rest
backslash_taken true c cs rest no_quote e behind read =
    let h = behind true read in
    (c ∷ h.0, ap (λ (t : List ℕ). c ∷ t) h.1, subst (λ k. IsCharacters (k ∷ h.0)) (sym (eqb-true c 92 e)) h.2)
backslash_taken false c cs rest no_quote e behind read = plain_taken (is_printable c) c cs rest no_quote e refl (behind false) read

quote_taken : (b : Bool) (c : ℕ) (cs rest : List ℕ) → eqb c 34 ≡ b → ((d : Bool) → after_characters d cs ≡ Ok rest → Body d cs rest)
    → cond b (Ok cs) (cond (eqb c 92) (after_characters true cs) (cond (is_printable c) (after_characters false cs) (Err (c ∷ cs)))) ≡ Ok rest
    → Body false (c ∷ cs) rest
quote_taken true c cs rest e behind read =
    let same : cs ≡ rest = cc in
    ([], ap (λ k. k ∷ cs) (eqb-true c 34 e) ∙ ap (λ (t : List ℕ). 34 ∷ t) same, none)
quote_taken false c cs rest e behind read = backslash_taken (eqb c 92) c cs rest e refl behind read

-- characters up to the closing quote
body_taken : (text : List ℕ) (behind : Bool) (rest : List ℕ) → after_characters behind text ≡ Ok rest → Body behind text rest
body_taken [] true rest e = absurd cc
body_taken [] false rest e = absurd cc
body_taken (c ∷ cs) true rest e = escaped_taken (is_escaped c) c cs rest refl (body_taken cs false rest) e
body_taken (c ∷ cs) false rest e = quote_taken (eqb c 34) c cs rest refl (λ d. body_taken cs d rest) e

body_read : (body rest : List ℕ) → IsCharacters body → after_characters false (body ++ 34 ∷ rest) ≡ Ok rest
body_read body rest none = refl
body_read body rest (plain {c} {cs} p h) =
    let no_quote : eqb c 34 ≡ false = ne_eqb c 34 p.1 in
    let no_backslash : eqb c 92 ≡ false = ne_eqb c 92 p.2 in
    let in_print : is_printable c ≡ true = and_from (leb 32 c) (leb c 126) (le-leb 32 c p.0.0) (le-leb c 126 p.0.1) in
    rw (no_quote, no_backslash, in_print) (body_read cs rest h)
body_read body rest (quote {cs} h) = body_read cs rest h
body_read body rest (backslash {cs} h) = body_read cs rest h

-- one byte more in front
halts_behind : (b d : Bool) (c : ℕ) → ((w : List ℕ) → after_characters b (c ∷ w) ≡ after_characters d w) → (front rest : List ℕ)
    → Halts (after_characters d) front rest → Halts (after_characters b) (c ∷ front) rest
halts_behind b d c same front [] h = tt
halts_behind b d c same front (x ∷ xs) h = λ w. same (front ++ x ∷ w) ∙ h w

open_here : (behind : Bool) (c : ℕ) (cs rest : List ℕ) → c ∷ cs ≡ rest → ((w : List ℕ) → after_characters behind (c ∷ w) ≡ Err (c ∷ w))
    → ((more : List ℕ) × IsCharacters (escape behind ++ more))
    → Open behind (c ∷ cs) rest
open_here behind c cs rest e halts more =
    let here : Open behind (c ∷ cs) (c ∷ cs) = ([], refl, more, halts) in
    subst (Open behind (c ∷ cs)) e here

open_escaped : (b : Bool) (c : ℕ) (cs rest : List ℕ) → is_escaped c ≡ b → (after_characters false cs ≡ Err rest → Open false cs rest)
    → cond b (after_characters false cs) (Err (c ∷ cs)) ≡ Err rest → Open true (c ∷ cs) rest
open_escaped true c cs rest e behind read =
    let h = behind read in
    (c ∷ h.0, ap (λ (t : List ℕ). c ∷ t) h.1, (h.2.0, escaped c (h.0 ++ h.2.0) e h.2.1), halts_behind true false c (λ w. rw e refl) h.0 rest h.3)
open_escaped false c cs rest e behind read = open_here true c cs rest (cc) (λ w. rw e refl) (34 ∷ [], quote none)

open_plain : (b : Bool) (c : ℕ) (cs rest : List ℕ) → eqb c 34 ≡ false → eqb c 92 ≡ false → is_printable c ≡ b
    → (after_characters false cs ≡ Err rest → Open false cs rest)
    → cond b (after_characters false cs) (Err (c ∷ cs)) ≡ Err rest → Open false (c ∷ cs) rest
open_plain true c cs rest no_quote no_backslash e behind read =
    let h = behind read in (
      c ∷ h.0,
      ap (λ (t : List ℕ). c ∷ t) h.1,
      (h.2.0, plain (is_plain c no_quote no_backslash e) h.2.1),
      halts_behind false false c (λ w. rw (no_quote, no_backslash, e) refl) h.0 rest h.3,
    )
open_plain false c cs rest no_quote no_backslash e behind read = open_here false c cs rest (cc) (λ w. rw (no_quote, no_backslash, e) refl) ([], none)

open_backslash : (b : Bool) (c : ℕ) (cs rest : List ℕ) → eqb c 34 ≡ false → eqb c 92 ≡ b → ((d : Bool) → after_characters d cs ≡ Err rest → Open d cs rest)
    → cond b (after_characters true cs) (cond (is_printable c) (after_characters false cs) (Err (c ∷ cs))) ≡ Err rest → Open false (c ∷ cs) rest
open_backslash true c cs rest no_quote e behind read =
    let h = behind true read in (
      c ∷ h.0,
      ap (λ (t : List ℕ). c ∷ t) h.1,
      (h.2.0, subst (λ k. IsCharacters (k ∷ (h.0 ++ h.2.0))) (sym (eqb-true c 92 e)) h.2.1),
      halts_behind false true c (λ w. rw (no_quote, e) refl) h.0 rest h.3,
    )
open_backslash false c cs rest no_quote e behind read = open_plain (is_printable c) c cs rest no_quote e refl (behind false) read

open_quote : (b : Bool) (c : ℕ) (cs rest : List ℕ) → eqb c 34 ≡ b → ((d : Bool) → after_characters d cs ≡ Err rest → Open d cs rest)
    → cond b (Ok cs) (cond (eqb c 92) (after_characters true cs) (cond (is_printable c) (after_characters false cs) (Err (c ∷ cs)))) ≡ Err rest
    → Open false (c ∷ cs) rest
open_quote true c cs rest e behind read = absurd cc
open_quote false c cs rest e behind read = open_backslash (eqb c 92) c cs rest e refl behind read

open_nil : (behind : Bool) (rest : List ℕ) → ((more : List ℕ) × IsCharacters (escape behind ++ more)) → [] ≡ rest → Open behind [] rest
open_nil behind [] more e = ([], refl, more, tt)
open_nil behind (c ∷ cs) more e = absurd cc

body_stops : (text : List ℕ) (behind : Bool) (rest : List ℕ) → after_characters behind text ≡ Err rest → Open behind text rest
body_stops [] true rest e = open_nil true rest (34 ∷ [], quote none) cc
body_stops [] false rest e = open_nil false rest ([], none) cc
body_stops (c ∷ cs) true rest e = open_escaped (is_escaped c) c cs rest refl (body_stops cs false rest) e
body_stops (c ∷ cs) false rest e = open_quote (eqb c 34) c cs rest refl (λ d. body_stops cs d rest) e

-- a str is read up to its closing quote, whatever follows
pub str_read : (p rest : List ℕ) → IsStr p → str_at (p ++ rest) ≡ Ok (p, rest)
unfolding str_at
str_read p rest (quoted {cs} h) =
    let whole : (cs ++ 34 ∷ []) ++ rest ≡ cs ++ 34 ∷ rest = append_assoc cs (34 ∷ []) rest in
    let read : after_characters false ((cs ++ 34 ∷ []) ++ rest) ≡ Ok rest = ap (after_characters false) whole ∙ body_read cs rest h in
    rw read (ap (λ (x : List ℕ × List ℕ). Ok x) (split_front (34 ∷ (cs ++ 34 ∷ [])) rest))

again_str : (p rest : List ℕ) → IsStr p → Again str_at p rest
again_str p [] h = tt
again_str p (d ∷ ds) h = λ w. str_read p (d ∷ w) h

pub str_takes : (text : List ℕ) (x : List ℕ × List ℕ) → str_at text ≡ Ok x → Took str_at IsStr text x
unfolding str_at
str_takes text x e =
    let chars = bound (word_at text (34 ∷ [])) (λ chars. after_characters false chars >>= λ after. Ok (split_before text after)) x e in
    let after = bound (after_characters false chars.0) (λ after. Ok (split_before text after)) x chars.2 in
    let body = body_taken chars.0 false after.0 after.1 in
    let p = 34 ∷ (body.0 ++ 34 ∷ []) in
    let is : IsStr p = quoted body.2 in
    let whole : text ≡ p ++ after.0 =
    word_taken text (34 ∷ []) chars.0 chars.1 ∙ ap (λ (t : List ℕ). 34 ∷ t) (body.1 ∙ sym (append_assoc body.0 (34 ∷ []) after.0)) in
    let split : split_before text after.0 ≡ x = cc (after.2) in
    took_split str_at IsStr text p after.0 x whole split is (again_str p after.0 is)

one_str : (p : List ℕ) × IsStr p
one_str = (34 ∷ 34 ∷ [], quoted none)

str_halts : (front rest : List ℕ) → Halts (after_characters false) front rest → Halts str_at (34 ∷ front) rest
unfolding str_at
str_halts front [] h = tt
str_halts front (d ∷ ds) h = λ w. rw (h w) refl

stops_behind : (cs rest : List ℕ) → Open false cs rest → Stops str_at IsStr (34 ∷ cs) rest
stops_behind cs rest h = (
  34 ∷ h.0,
  ap (λ (t : List ℕ). 34 ∷ t) h.1,
  (h.2.0 ++ 34 ∷ [], subst (λ (t : List ℕ). IsStr (34 ∷ t)) (append_assoc h.0 h.2.0 (34 ∷ [])) (quoted h.2.1)),
  str_halts h.0 rest h.3,
)

behind_err : (text cs rest : List ℕ) → (after_characters false cs >>= λ after. Ok (split_before text after)) ≡ Err rest → after_characters false cs ≡ Err rest
behind_err text cs rest e = elim (bound_err (after_characters false cs) (λ after. Ok (split_before text after)) rest e) [
  | inl h ↦ h
  | inr h ↦ let never : Ok (split_before text h.0) ≡ Err rest = h.2 in absurd cc
]

str_by_test : (b : Bool) (c : ℕ) (cs rest : List ℕ) → eqb 34 c ≡ b
    → (cond b (Ok cs) (Err (c ∷ cs)) >>= λ chars. after_characters false chars >>= λ after. Ok (split_before (c ∷ cs) after)) ≡ Err rest
    → Stops str_at IsStr (c ∷ cs) rest
unfolding str_at
str_by_test true c cs rest e read =
    subst (λ k. Stops str_at IsStr (k ∷ cs) rest) (eqb-true 34 c e) (stops_behind cs rest (body_stops cs false rest (behind_err (c ∷ cs) cs rest read)))
str_by_test false c cs rest e read = stops_here str_at IsStr c cs rest one_str (cc) (λ w. rw e refl)

pub str_stops : (text rest : List ℕ) → str_at text ≡ Err rest → Stops str_at IsStr text rest
unfolding str_at
str_stops [] rest e = stops_nil str_at IsStr rest one_str cc
str_stops (c ∷ cs) rest e = str_by_test (eqb 34 c) c cs rest refl e
