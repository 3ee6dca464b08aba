-- The shape of the text of a tuple and of a template: a grammar by cases on the bytes, that knows no reader.
-- Cited by ByShape, Exact, Explained, FormalShapes, IntShapes, Layouts, Only, Outside, PlaceShapes, Rows, Shapes,
--   StrShapes, TextFaults, TextShapes, laws.rt, parsing.rt, `laws::a_syntax_fault_is_at_the_longest_front`,
--   `laws::a_text_of_the_shape_has_these_faults`; other crates.
use Rattle.std.specs.Prelude.{◌≡◌, ◌≢◌, ◌<◌, ◌≤◌, ◌⊎◌, ℕ, suc, List, [], ◌∷◌, ◌++◌, length, take, codes, All}
use Rattle.std.specs.List.{flat_map}
use Rattle.std.specs.Int.{w64}
use Rattle.std.specs.Int.RustNames.{FitsSigned}
use Rattle.std.specs.Str.Parse.{signed_digits_value}
use Rattle.kt_tuple.specs.declared.string.TheConstants.{MAX_CHARACTERS}
use Rattle.kt_tuple.specs.declared.tuple.TheConstants.{MAX_PLACES}
use Rattle.kt_tuple.specs.declared.parse_error.ParseError.{ParseError}
use Rattle.kt_tuple.specs.declared.parse_error.ParseError.TheVariants as faults
use Rattle.kt_tuple.specs.Text.{IsPrintable}

-- 0 to 9
abbrev pub IsDigit : ℕ → Type 0
IsDigit c = (48 ≤ c) × (c ≤ 57)

-- 1 to 9
abbrev pub IsFirstDigit : ℕ → Type 0
IsFirstDigit c = (49 ≤ c) × (c ≤ 57)

-- `0`, or a minus sign or none, a digit 1 to 9, and any digits
pub data IsInt : List ℕ → Type 0 where
  just_zero : IsInt (48 ∷ [])
  positive : {c : ℕ} {ds : List ℕ} → IsFirstDigit c → All IsDigit ds → IsInt (c ∷ ds)
  negative : {c : ℕ} {ds : List ℕ} → IsFirstDigit c → All IsDigit ds → IsInt (45 ∷ c ∷ ds)

-- a printable byte other than the quote and the backslash
abbrev pub IsPlain : ℕ → Type 0
IsPlain c = IsPrintable c × (c ≢ 34) × (c ≢ 92)

-- any number of characters: each a plain byte, or a quote or a backslash behind a backslash
pub data IsCharacters : List ℕ → Type 0 where
  none : IsCharacters []
  plain : {c : ℕ} {cs : List ℕ} → IsPlain c → IsCharacters cs → IsCharacters (c ∷ cs)
  quote : {cs : List ℕ} → IsCharacters cs → IsCharacters (92 ∷ 34 ∷ cs)
  backslash : {cs : List ℕ} → IsCharacters cs → IsCharacters (92 ∷ 92 ∷ cs)

-- how many characters these are: an escaped one counts once
abbrev pub character_count : {cs : List ℕ} → IsCharacters cs → ℕ
character_count none = 0
character_count (plain is others) = suc (character_count others)
character_count (quote others) = suc (character_count others)
character_count (backslash others) = suc (character_count others)

-- characters between quotes
pub data IsStr : List ℕ → Type 0 where
  quoted : {cs : List ℕ} → IsCharacters cs → IsStr (34 ∷ (cs ++ 34 ∷ []))

-- a value: an int, a str, `true` or `false`
pub data IsValueText : List ℕ → Type 0 where
  int : {p : List ℕ} → IsInt p → IsValueText p
  str : {p : List ℕ} → IsStr p → IsValueText p
  is_true : IsValueText (codes "true")
  is_false : IsValueText (codes "false")

-- a place: a value, `?int`, `?str` or `?bool`
pub data IsPlaceText : List ℕ → Type 0 where
  actual : {p : List ℕ} → IsValueText p → IsPlaceText p
  any_int : IsPlaceText (codes "?int")
  any_str : IsPlaceText (codes "?str")
  any_bool : IsPlaceText (codes "?bool")

-- one or more texts of a shape, each but the first behind a comma and a space: the texts, and the whole
pub data Separated (IsOne : List ℕ → Type 0) : List (List ℕ) → List ℕ → Type 0 where
  one : {p : List ℕ} → IsOne p → Separated IsOne (p ∷ []) p
  more : {p text : List ℕ} {ps : List (List ℕ)} → IsOne p → Separated IsOne ps text
      → Separated IsOne (p ∷ ps) (p ++ 44 ∷ 32 ∷ text)

-- the same between parentheses
pub data Consists (IsOne : List ℕ → Type 0) : List (List ℕ) → List ℕ → Type 0 where
  in_parentheses : {ps : List (List ℕ)} {text : List ℕ} → Separated IsOne ps text
      → Consists IsOne ps (40 ∷ (text ++ 41 ∷ []))

-- one or more of a shape in parentheses
abbrev pub IsTextOf : (List ℕ → Type 0) → List ℕ → Type 0
IsTextOf IsOne text = (places : List (List ℕ)) × Consists IsOne places text

-- the shape of a tuple's text, and of a template's
abbrev pub IsTupleText : List ℕ → Type 0
IsTupleText = IsTextOf IsValueText

abbrev pub IsTemplateText : List ℕ → Type 0
IsTemplateText = IsTextOf IsPlaceText

-- the front begins some text of the shape
abbrev pub Begins : (List ℕ → Type 0) → List ℕ → Type 0
Begins IsShape front = (rest : List ℕ) × IsShape (front ++ rest)

-- a place and the comma and space behind it
abbrev pub followed : List ℕ → List ℕ
followed p = p ++ codes ", "

-- no int outside 64 bits
abbrev pub IsInside : List ℕ → Type 0
IsInside p = IsInt p → FitsSigned w64 (signed_digits_value 10 p)

-- no str of more than `MAX_CHARACTERS` characters
abbrev pub IsShort : List ℕ → Type 0
IsShort p = (cs : List ℕ) (h : IsCharacters cs) → p ≡ 34 ∷ (cs ++ 34 ∷ []) → character_count h ≤ MAX_CHARACTERS

-- the text is places of the shape in parentheses, and the first int of them outside 64 bits begins at this byte
pub record IsFirstOutside (IsOne : List ℕ → Type 0) (text : List ℕ) (at : ℕ) : Type 0 where
  pub before : List (List ℕ)
  pub number : List ℕ
  pub others : List (List ℕ)
  pub rest : List ℕ
  pub places : Consists IsOne (before ++ number ∷ others) text
  pub parts : text ≡ (40 ∷ flat_map followed before) ++ (number ++ rest)
  pub begins : length (40 ∷ flat_map followed before) ≡ at
  pub inside : All IsInside before
  pub is_int : IsInt number
  pub outside : ¬ FitsSigned w64 (signed_digits_value 10 number)

-- the text is places of the shape in parentheses, all in range, and more than `MAX_PLACES` or not all short
pub record IsTooLong (IsOne : List ℕ → Type 0) (text : List ℕ) : Type 0 where
  pub places : List (List ℕ)
  pub are : Consists IsOne places text
  pub inside : All IsInside places
  pub long : (MAX_PLACES < length places) ⊎ (¬ All IsShort places)

-- the text is at most `MAX_PLACES` places of the shape in parentheses, all in range and short
pub record IsAccepted (IsOne : List ℕ → Type 0) (text : List ℕ) : Type 0 where
  pub places : List (List ℕ)
  pub are : Consists IsOne places text
  pub inside : All IsInside places
  pub few : length places ≤ MAX_PLACES
  pub short : All IsShort places

-- the first bytes, so many, begin some text of the shape, and no more of them do
pub record IsLongestFront (IsShape : List ℕ → Type 0) (text : List ℕ) (at : ℕ) : Type 0 where
  pub within : at ≤ length text
  pub begins : Begins IsShape (take at text)
  pub longest : (n : ℕ) → at < n → n ≤ length text → ¬ Begins IsShape (take n text)

-- what an error says of the text; want of memory says nothing
abbrev pub Explains : (List ℕ → Type 0) → List ℕ → ParseError → Type 0
Explains IsOne text (faults.Syntax at) = (¬ IsTextOf IsOne text) × IsLongestFront (IsTextOf IsOne) text at
Explains IsOne text (faults.Range at) = IsFirstOutside IsOne text at
Explains IsOne text faults.TooLong = IsTooLong IsOne text
Explains IsOne text faults.OutOfMemory = Unit
