-- A text that is cut down to so many characters.
-- Cited by `words::shorten`.
use Rattle.std.proofs.Common.{◌≡◌, ℕ, suc, ◌+◌, ◌-◌, ◌<◌, ◌≤◌, Bool, true, false, List, [], ◌∷◌, ◌++◌, length, take, sym, ap, ◌∙◌, arith}
use Rattle.std.proofs.Common.{append_assoc, length-append}
use Rattle.std.specs.Prelude.{codes, if◌then◌else◌, nat_le}
use Rattle.std.proofs.lemmas.Bool.Decides.{nat_tests}
use Rattle.kt_story.specs.Said.{shortened}

-- a front and so many more characters
take-behind : (front behind : List ℕ) (n : ℕ) → take (length front + n) (front ++ behind) ≡ front ++ take n behind
take-behind [] behind n = ap (λ (k : ℕ). take k behind) (omega arith)
take-behind (c ∷ front) behind n =
    let more : length (c ∷ front) + n ≡ suc (length front + n) = omega arith in
    ap (λ (k : ℕ). take k (c ∷ (front ++ behind))) more ∙ ap (λ (t : List ℕ). c ∷ t) (take-behind front behind n)

fits : (behind : List ℕ) (most : ℕ) → length behind ≤ most → nat_le (length behind) most ≡ true
fits behind most few = grind (arith, nat_tests)

exceeds : (behind : List ℕ) (most : ℕ) → most < length behind → nat_le (length behind) most ≡ false
exceeds behind most many = grind (arith, nat_tests)

-- it is short enough
pub stays_whole : (text front behind : List ℕ) (start most : ℕ) → text ≡ front ++ behind → start ≡ length front → length text ≤ start + most
    → text ≡ front ++ shortened behind most
stays_whole text front behind start most is begins few =
    let count : length text ≡ length front + length behind = ap length is ∙ length-append front behind in
    let short : length behind ≤ most = omega (arith, count, begins, few) in
    is ∙ ap (λ (b : Bool). front ++ (if b then behind else take (most - 3) behind ++ codes "...")) (sym (fits behind most short))

-- it is cut
pub is_cut : (text cut new front behind : List ℕ) (start most : ℕ) → text ≡ front ++ behind → start ≡ length front → start + most < length text
    → cut ≡ take (start + (most - 3)) text → new ≡ cut ++ codes "..." → new ≡ front ++ shortened behind most
is_cut text cut new front behind start most is begins many cuts dots =
    let count : length text ≡ length front + length behind = ap length is ∙ length-append front behind in
    let long : most < length behind = omega (arith, count, begins, many) in
    dots ∙ ap (λ (t : List ℕ). t ++ codes "...")
    (cuts ∙ ap (λ (k : ℕ). take (k + (most - 3)) text) begins ∙ ap (λ (t : List ℕ). take (length front + (most - 3)) t) is
    ∙ take-behind front behind (most - 3))
    ∙ append_assoc front (take (most - 3) behind) (codes "...")
    ∙ ap (λ (b : Bool). front ++ (if b then behind else take (most - 3) behind ++ codes "...")) (sym (exceeds behind most long))
