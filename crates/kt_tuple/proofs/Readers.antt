-- What the readers read.
-- Cited by `reading::after_digits`; other crates.
use Rattle.std.proofs.Common.{◌≡◌, ℕ, ◌+◌, suc, Bool, true, false, not, cond, ltb, List, [], ◌∷◌, length, drop, Some, None, refl, sym, ap, ◌∙◌, arith}
use Rattle.std.proofs.Math.ListN.{drop_of_length-le}
use Rattle.std.proofs.lemmas.Bool.{ltb-false}
use Rattle.std.specs.Prelude.{position}
use Rattle.std.specs.Char.{is_ascii_digit}
use Rattle.std.specs.List.{position_or_len}
use Rattle.kt_tuple.specs.Reading.{after_digits}
use Rattle.kt_tuple.specs.auxiliary.Digits.{is_no_digit}

drop-by_test : (b : Bool) (n c : ℕ) (cs rest : List ℕ) → drop n cs ≡ rest → drop (cond (not (not b)) (1 + n) 0) (c ∷ cs) ≡ cond b rest (c ∷ cs)
drop-by_test true n c cs rest e =
    let one : 1 + n ≡ suc n = omega arith in
    ap (λ k. drop k (c ∷ cs)) one ∙ e
drop-by_test false n c cs rest e = refl

drop-digits : (text : List ℕ) → drop (position_or_len is_no_digit text) text ≡ after_digits text
drop-digits [] = refl
drop-digits (c ∷ cs) = drop-by_test (is_ascii_digit c) (position_or_len is_no_digit cs) c cs (after_digits cs) (drop-digits cs)

some_chosen : (b : Bool) (m n : ℕ) → cond b (Some m) None ≡ Some n → m ≡ n
some_chosen true m n e = cc
some_chosen false m n e = absurd cc

pub none_chosen : (b : Bool) (m : ℕ) → cond b (Some m) None ≡ None → b ≡ false
none_chosen true m e = absurd cc
none_chosen false m e = refl

-- the digits end where the first byte stands that is none
pub digits_end : (text : List ℕ) (n : ℕ) → position is_no_digit text ≡ Some n → drop n text ≡ after_digits text
digits_end text n e = ap (λ k. drop k text) (sym (some_chosen (ltb (position_or_len is_no_digit text) (length text)) _ _ e)) ∙ drop-digits text

-- or with the text
pub all_digits : (text : List ℕ) → position is_no_digit text ≡ None → [] ≡ after_digits text
all_digits text e =
    let whole = ltb-false (position_or_len is_no_digit text) (length text)
    (none_chosen (ltb (position_or_len is_no_digit text) (length text)) (position_or_len is_no_digit text) e) in
    sym (drop_of_length-le text whole) ∙ drop-digits text
