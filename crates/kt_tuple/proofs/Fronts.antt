-- A word that stands in front is read.
-- Cited by `reading::word_at`.
use Rattle.std.proofs.Common.{◌≡◌, ℕ, true, List, [], ◌∷◌, ◌++◌, Ok, eqb, eq-eqb, refl, sym, ap, ◌∙◌}
use Rattle.std.proofs.Common.{length, take, drop, take-append-drop, subst}
use Rattle.std.specs.Cmp.Lexicographic.{pointwise, bytes_decides}
use Rattle.kt_tuple.specs.Reading.{word_at}

front_read : (word rest : List ℕ) → word_at (word ++ rest) word ≡ Ok rest
front_read [] rest = refl
front_read (w ∷ word) rest = rw (eq-eqb w w refl) (front_read word rest)

-- where the front of the text is the word, byte for byte, what stands behind it is answered
pub whole_word : (text word : List ℕ) → pointwise eqb (take (length word) text) word ≡ true
    → word_at text word ≡ Ok (drop (length word) text)
whole_word text word same =
    let n = length word in
    let front = (bytes_decides (take n text) word).0 same in
    let split : word ++ drop n text ≡ text = ap (λ f. f ++ drop n text) (sym front) ∙ take-append-drop n text in
    subst (λ t. word_at t word ≡ Ok (drop n text)) split (front_read word (drop n text))
