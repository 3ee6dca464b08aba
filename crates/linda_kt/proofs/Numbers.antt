-- A text that is parsed, and the number that it writes.
-- Cited by `trials::number_of`.
use Rattle.std.proofs.Common.{◌≡◌, ◌∙◌, ◌≤◌, ◌<◌, ◌^◌, ℕ, Bool, true, false, None, Some, refl, sym, ap, arith}
use Rattle.std.specs.Prelude.{if◌then◌else◌}
use Rattle.std.specs.Str.Parse.{IsNumeral, digits_value, without_leading_plus}
use Rattle.clap.specs.Values.{IsUnsignedIn}
use Rattle.clap.specs.ValueTests.{is_unsigned_in}
use Rattle.clap.specs.declared.builder.value_parser.ValueParser.TheVariants as parsers
use Rattle.clap.proofs.ValueTestLemmas.{Accepts-accepts, accepts-Accepts}
use Rattle.kt_command.specs.Command.{Text}
use Rattle.linda_kt.specs.Numbers.{number_of}

abbrev most : ℕ
most = 18446744073709551615

abbrev value : Text → ℕ
value text = digits_value 10 (without_leading_plus text)

-- a text that is parsed writes its number
pub parsed : (text : Text) (n : ℕ) → IsNumeral 10 (without_leading_plus text) → value text < 2 ^ 64 → n ≡ value text → Some n ≡ number_of text
parsed text n numeral small is =
    let at_most : value text ≤ most = omega arith in
    let at_least : 0 ≤ value text = omega arith in
    let test : is_unsigned_in 0 most text ≡ true = Accepts-accepts false (parsers.Unsigned 0 most) text (numeral, small, at_least, at_most) in
    ap Some is ∙ sym (ap (λ (b : Bool). if b then Some (value text) else None) test)

-- and one that is not writes none
pub not_parsed : (text : Text) → (IsNumeral 10 (without_leading_plus text) × (value text < 2 ^ 64) → ⊥) → None ≡ number_of text
not_parsed text h = by_test (is_unsigned_in 0 most text) refl
  where
    by_test : (b : Bool) → is_unsigned_in 0 most text ≡ b → None ≡ (if b then Some (value text) else None)
    by_test true test =
        let within : IsUnsignedIn 0 most text = accepts-Accepts false (parsers.Unsigned 0 most) text test in
        absurd (h (within.0, within.1))
    by_test false test = refl
