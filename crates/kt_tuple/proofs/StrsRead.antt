-- The text of a str is read as that str.
-- Cited by ValuesRead.
use Rattle.std.proofs.Common.{◌≡◌, ℕ, Bool, true, false, cond, ◌||◌, eqb, List, [], ◌∷◌, ◌++◌, Ok, refl, ap, append_assoc}
use Rattle.std.proofs.lemmas.Bool.{and_parts}
use Rattle.std.specs.List.{flat_map, list_all}
use Rattle.kt_tuple.specs.Spelling.{character_text}
use Rattle.kt_tuple.specs.Reading.{is_printable, after_characters, unescaped}

character_read : (b d : Bool) (c : ℕ) (cs rest : List ℕ) → eqb c 34 ≡ b → eqb c 92 ≡ d → is_printable c ≡ true → after_characters false cs ≡ Ok rest
    → after_characters false (cond (b || d) (92 ∷ c ∷ []) (c ∷ []) ++ cs) ≡ Ok rest
character_read true d c cs rest quote backslash printable behind = rw quote behind
character_read false true c cs rest quote backslash printable behind = rw (quote, backslash) behind
character_read false false c cs rest quote backslash printable behind = rw (quote, backslash, printable) behind

-- printable characters are read up to the closing quote
pub characters_read : (cs rest : List ℕ) → list_all is_printable cs ≡ true → after_characters false (flat_map character_text cs ++ 34 ∷ rest) ≡ Ok rest
characters_read [] rest printable = refl
characters_read (c ∷ cs) rest printable =
    let parts = and_parts (is_printable c) (list_all is_printable cs) printable in
    rw (append_assoc (character_text c) (flat_map character_text cs) (34 ∷ rest))
    (character_read (eqb c 34) (eqb c 92) c (flat_map character_text cs ++ 34 ∷ rest) rest refl refl parts.0 (characters_read cs rest parts.1))

character_unescaped : (b d : Bool) (c : ℕ) (text cs : List ℕ) → eqb c 34 ≡ b → eqb c 92 ≡ d → unescaped false text ≡ cs
    → unescaped false (cond (b || d) (92 ∷ c ∷ []) (c ∷ []) ++ text) ≡ c ∷ cs
character_unescaped true d c text cs quote backslash behind = ap (λ (t : List ℕ). c ∷ t) behind
character_unescaped false true c text cs quote backslash behind = ap (λ (t : List ℕ). c ∷ t) behind
character_unescaped false false c text cs quote backslash behind = rw backslash (ap (λ (t : List ℕ). c ∷ t) behind)

-- without the backslashes in front of them they are the characters
pub unescaped_text : (cs : List ℕ) → unescaped false (flat_map character_text cs) ≡ cs
unescaped_text [] = refl
unescaped_text (c ∷ cs) = character_unescaped (eqb c 34) (eqb c 92) c (flat_map character_text cs) cs refl refl (unescaped_text cs)
