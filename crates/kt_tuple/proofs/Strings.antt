-- The tests of a string's characters.
-- Cited by Ints, ValueLaws, ValuesRead, `reading::str_with`; other crates.
use Rattle.std.proofs.Common.{◌≡◌, ℕ, Bool, true, false, cond, ◌&&◌, List, length, Some, None, refl, leb}
use Rattle.std.specs.List.{list_all}
use Rattle.std.specs.Cmp.Derive.{both_true}
use Rattle.std.proofs.lemmas.Bool.{le-leb, leb-true, and_parts}
use Rattle.std.proofs.lemmas.List.Elements.{All-weaker}
use Rattle.std.proofs.lemmas.List.Sums.{AllPass-from_list_all, list_all-from_AllPass}
use Rattle.kt_tuple.specs.declared.string.TheConstants.{MAX_CHARACTERS}
use Rattle.kt_tuple.specs.declared.value.Value.TheVariants.{Str}
use Rattle.kt_tuple.specs.Text.{IsPrintable, ArePrintable, IsText}
use Rattle.kt_tuple.specs.Reading.{is_printable, str_of}

printable : (c : ℕ) → IsPrintable c → is_printable c ≡ true
printable c h = both_true (le-leb 32 c h.0) (le-leb c 126 h.1)

pub chosen : {X : Type 0} (b : Bool) (x y : X) → b ≡ true → x ≡ cond b x y
chosen true x y e = refl
chosen false x y e = absurd cc

pub str_of_text : (cs : List ℕ) → IsText cs → Some (Str cs) ≡ str_of cs
str_of_text cs h =
    chosen (leb (length cs) MAX_CHARACTERS && list_all is_printable cs) (Some (Str cs)) None
    (both_true (le-leb (length cs) MAX_CHARACTERS h.0)
    (list_all-from_AllPass is_printable cs (All-weaker IsPrintable (λ c. is_printable c ≡ true) printable cs h.1)))

in_print : (c : ℕ) → is_printable c ≡ true → IsPrintable c
in_print c e = let parts = and_parts (leb 32 c) (leb c 126) e in (leb-true 32 c parts.0, leb-true c 126 parts.1)

pub are_printable : (cs : List ℕ) → list_all is_printable cs ≡ true → ArePrintable cs
are_printable cs e = All-weaker (λ c. is_printable c ≡ true) IsPrintable in_print cs (AllPass-from_list_all is_printable cs e)

pub all_printable : (cs : List ℕ) → ArePrintable cs → list_all is_printable cs ≡ true
all_printable cs h = list_all-from_AllPass is_printable cs (All-weaker IsPrintable (λ c. is_printable c ≡ true) printable cs h)
