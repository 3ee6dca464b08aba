-- Line after line: which part comes next.
-- Cited by `part::part_of`.
use Rattle.std.proofs.Common.{◌≡◌, ℕ, zero, suc, ◌-◌, ◌<◌, List, [], ◌∷◌, refl, ap, ◌∙◌, arith}
use Rattle.kt_text.specs.Reading.{lines_of}
use Rattle.kt_explain.specs.declared.part.Part.{Part}
use Rattle.kt_explain.specs.Part.{part_after, part_behind}

no_lines : (part : Part) (n : ℕ) → part_after part n [] ≡ part
unfolding part_after
no_lines part zero = refl
no_lines part (suc n) = refl

-- no line is left
pub behind_last : (part : Part) (n : ℕ) (text : List ℕ) → lines_of text ≡ ([], text) → part_after part n (lines_of text).0 ≡ part
behind_last part n text e = ap (λ (ls : List (List ℕ) × List ℕ). part_after part n ls.0) e ∙ no_lines part n

-- no line is to be passed
pub passed_all : (part : Part) (n : ℕ) (lines : List (List ℕ)) → n ≡ 0 → part_after part n lines ≡ part
unfolding part_after
passed_all part zero lines e = refl
passed_all part (suc n) lines e = absurd (omega (arith, e))

next_line : (part : Part) (n m : ℕ) (text line later : List ℕ) → n ≡ suc m → lines_of text ≡ (line ∷ (lines_of later).0, (lines_of later).1)
    → part_after part n (lines_of text).0 ≡ part_after (part_behind part line) m (lines_of later).0
unfolding part_after
next_line part zero m text line later is e = absurd (omega (arith, is))
next_line part (suc n) m text line later is e =
    let same : n ≡ m = omega (arith, is) in
    ap (λ (ls : List (List ℕ) × List ℕ). part_after part (suc n) ls.0) e ∙ ap (λ k. part_after (part_behind part line) k (lines_of later).0) same

-- one line more is passed
pub passed_one : (part : Part) (n : ℕ) (text line later : List ℕ) → 0 < n → lines_of text ≡ (line ∷ (lines_of later).0, (lines_of later).1)
    → part_after part n (lines_of text).0 ≡ part_after (part_behind part line) (n - 1) (lines_of later).0
passed_one part n text line later lt e =
    let is : n ≡ suc (n - 1) = omega (arith, lt) in
    next_line part n (n - 1) text line later is e
