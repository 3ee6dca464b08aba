-- A str that is read is spelled as its characters are.
-- Cited by ValueLaws.
use Rattle.std.proofs.Common.{◌≡◌, ℕ, Bool, true, false, cond, ◌||◌, eqb, List, [], ◌∷◌, ◌++◌, Ok, Err, refl, sym, ap, ◌∙◌, arith}
use Rattle.std.proofs.lemmas.Bool.{eqb-true, le-leb}
use Rattle.std.specs.Cmp.Derive.{both_true}
use Rattle.std.specs.List.{flat_map, list_all}
use Rattle.kt_tuple.specs.Spelling.{character_text}
use Rattle.kt_tuple.specs.Reading.{is_printable, is_escaped, after_characters, unescaped}

-- what stands in front of the characters: the backslash of an escaped one
abbrev escape : Bool → List ℕ
escape true = 92 ∷ []
escape false = []

-- characters that are spelled so, all of them printable
pub record IsSpelled (behind : Bool) (body : List ℕ) : Type 0 where
  pub text : flat_map character_text (unescaped behind body) ≡ escape behind ++ body
  pub printable : list_all is_printable (unescaped behind body) ≡ true

abbrev Taken : Bool → List ℕ → List ℕ → Type 0
Taken behind text rest = (body : List ℕ) × (text ≡ body ++ 34 ∷ rest) × IsSpelled behind body

escaped_printable : (c : ℕ) (b d : Bool) → eqb c 34 ≡ b → eqb c 92 ≡ d → (b || d) ≡ true → is_printable c ≡ true
escaped_printable c true d e f h = let is : c ≡ 34 = eqb-true c 34 e in both_true (le-leb 32 c (omega arith)) (le-leb c 126 (omega arith))
escaped_printable c false true e f h = let is : c ≡ 92 = eqb-true c 92 f in both_true (le-leb 32 c (omega arith)) (le-leb c 126 (omega arith))
escaped_printable c false false e f h = absurd cc

-- behind a backslash
escaped_taken : (b : Bool) (c : ℕ) (cs rest : List ℕ) → is_escaped c ≡ b → ((r : List ℕ) → after_characters false cs ≡ Ok r → Taken false cs r)
    → cond b (after_characters false cs) (Err (c ∷ cs)) ≡ Ok rest → Taken true (c ∷ cs) rest
escaped_taken true c cs rest e behind read =
    let more = behind rest read in (
      c ∷ more.0,
      ap (λ (t : List ℕ). c ∷ t) more.1,
      record {
        text = rw e (ap (λ (t : List ℕ). 92 ∷ c ∷ t) more.2.text);
        printable = rw (escaped_printable c (eqb c 34) (eqb c 92) refl refl e) more.2.printable;
      },
    )
escaped_taken false c cs rest e behind read = absurd cc

plain_taken : (b : Bool) (c : ℕ) (cs rest : List ℕ) → eqb c 34 ≡ false → eqb c 92 ≡ false → is_printable c ≡ b
    → ((r : List ℕ) → after_characters false cs ≡ Ok r → Taken false cs r)
    → cond b (after_characters false cs) (Err (c ∷ cs)) ≡ Ok rest → Taken false (c ∷ cs) rest
plain_taken true c cs rest no_quote no_backslash e behind read =
    let more = behind rest read in (
      c ∷ more.0,
      ap (λ (t : List ℕ). c ∷ t) more.1,
      record {
        text = rw (no_backslash, no_quote, no_backslash) (ap (λ (t : List ℕ). c ∷ t) more.2.text);
        printable = rw (no_backslash, e) more.2.printable;
      },
    )
plain_taken false c cs rest no_quote no_backslash e behind read = absurd cc

backslash_taken : (b : Bool) (c : ℕ) (cs rest : List ℕ) → eqb c 34 ≡ false → eqb c 92 ≡ b
    → ((d : Bool) (r : List ℕ) → after_characters d cs ≡ Ok r → Taken d cs r)
    → cond b (after_characters true cs) (cond (is_printable c) (after_characters false cs) (Err (c ∷ cs))) ≡ Ok rest → Taken false (c ∷ cs) rest
backslash_taken true c cs rest no_quote e behind read =
    let more = behind true rest read in (
      c ∷ more.0,
      ap (λ (t : List ℕ). c ∷ t) more.1,
      record {
        text = rw e (more.2.text ∙ ap (λ k. k ∷ more.0) (sym (eqb-true c 92 e)));
        printable = rw e more.2.printable;
      },
    )
backslash_taken false c cs rest no_quote e behind read = plain_taken (is_printable c) c cs rest no_quote e refl (behind false) read

quote_taken : (b : Bool) (c : ℕ) (cs rest : List ℕ) → eqb c 34 ≡ b → ((d : Bool) (r : List ℕ) → after_characters d cs ≡ Ok r → Taken d cs r)
    → cond b (Ok cs) (cond (eqb c 92) (after_characters true cs) (cond (is_printable c) (after_characters false cs) (Err (c ∷ cs)))) ≡ Ok rest
    → Taken false (c ∷ cs) rest
quote_taken true c cs rest e behind read =
    let same : cs ≡ rest = cc in
    ([], ap (λ k. k ∷ cs) (eqb-true c 34 e) ∙ ap (λ (t : List ℕ). 34 ∷ t) same, record { text = refl; printable = refl })
quote_taken false c cs rest e behind read = backslash_taken (eqb c 92) c cs rest e refl behind read

-- characters up to the closing quote
pub characters_taken : (text : List ℕ) (behind : Bool) (rest : List ℕ) → after_characters behind text ≡ Ok rest → Taken behind text rest
characters_taken [] true rest e = absurd cc
characters_taken [] false rest e = absurd cc
characters_taken (c ∷ cs) true rest e = escaped_taken (is_escaped c) c cs rest refl (λ r. characters_taken cs false r) e
characters_taken (c ∷ cs) false rest e = quote_taken (eqb c 34) c cs rest refl (λ d r. characters_taken cs d r) e
