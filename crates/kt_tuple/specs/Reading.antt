-- Reading the text of values and places from left to right. A reading function answers the spelling that
-- stands in front and the bytes after it, or the bytes from the first one with which it can't go on.
-- Cited by ByShape, Exact, Explained, Faults, Findings, FormalShapes, Fronts, IntLaws, IntShapes, Ints, IntsRead,
--   Layouts, Made, Making, Outside, PlaceLaws, PlaceShapes, Places, PlacesRead, Readers, Rows, Shapes, StrLaws,
--   StrShapes and 24 more; other crates.
use Rattle.std.specs.Char.{is_ascii_digit}
use Rattle.std.specs.Int.{is_in_range}
use Rattle.std.specs.Cmp.Lexicographic.{pointwise}
use Rattle.std.specs.List.{list_all}
use Rattle.std.specs.Option.{option_map}
use Rattle.std.specs.Str.{all_ascii_digits}
use Rattle.kt_tuple.specs.declared.string.TheConstants.{MAX_CHARACTERS}
use Rattle.kt_tuple.specs.declared.value.Value.{Value}
use Rattle.kt_tuple.specs.declared.value.Value.TheVariants.{Int, Str, Bool as Truth}
use Rattle.kt_tuple.specs.declared.value.Kind.TheVariants as kinds
use Rattle.kt_tuple.specs.declared.template.Place.{Place}
use Rattle.kt_tuple.specs.declared.template.Place.TheVariants.{Actual, Formal}
use Rattle.std.specs.Str.Parse.{without_leading_sign, signed_digits_value}
use lib.Signed.{mag}
use Rattle.std.specs.Prelude.{◌&&◌, ◌++◌, ◌^◌, ℤ, nat_lt, nat_le, nat_eq, is_some, ◌≡◌, ℕ, ◌-◌}
use Rattle.std.specs.Prelude.{◌==◌, ◌||◌, Bool, true, false, not, if◌then◌else◌, List, [], ◌∷◌}
use Rattle.std.specs.Prelude.{length, take, drop, codes, Option, Some, None, Result, Ok, Err}

infixl 10 ◌>>=◌
abbrev pub ◌>>=◌ : {A B E : Type 0} → Result A E → (A → Result B E) → Result B E
(Ok x) >>= f = f x
(Err e) >>= f = Err e

-- what the code answered, seen by the two views, is what a function on lists answers
abbrev pub Gives : {X Y E F : Type 0} → (X → Y) → (E → F) → Result X E → Result Y F → Type 0
Gives value rest (Ok x) read = read ≡ Ok (value x)
Gives value rest (Err e) read = read ≡ Err (rest e)

-- the bytes after the word
abbrev pub word_at : List ℕ → List ℕ → Result (List ℕ) (List ℕ)
word_at text [] = Ok text
word_at [] (w ∷ word) = Err []
word_at (c ∷ text) (w ∷ word) = if w == c then word_at text word else Err (c ∷ text)

abbrev pub begins_with_digit : List ℕ → Bool
begins_with_digit [] = false
begins_with_digit (c ∷ cs) = is_ascii_digit c

-- the bytes after the digits in front
abbrev pub after_digits : List ℕ → List ℕ
after_digits [] = []
after_digits (c ∷ cs) = if is_ascii_digit c then after_digits cs else c ∷ cs

-- the bytes after digits of which the first is not 0
abbrev pub after_positive : List ℕ → Result (List ℕ) (List ℕ)
after_positive [] = Err []
after_positive (c ∷ cs) = if is_in_range 49 57 c then Ok (after_digits cs) else Err (c ∷ cs)

-- what stands before the rest, and the rest
abbrev pub split_before : List ℕ → List ℕ → List ℕ × List ℕ
split_before text rest = (take (length text - length rest) text, drop (length text - length rest) text)

-- what stands before the rest that was read up to
abbrev pub up_to : List ℕ → Result (List ℕ) (List ℕ) → Result (List ℕ × List ℕ) (List ℕ)
up_to text (Ok rest) = Ok (split_before text rest)
up_to text (Err rest) = Err rest

-- an int
unfoldable pub int_at : List ℕ → Result (List ℕ × List ℕ) (List ℕ)
int_at [] = Err []
int_at (c ∷ rest) =
    if c == 48 then Ok (48 ∷ [], rest) else up_to (c ∷ rest) (after_positive (if c == 45 then rest else c ∷ rest))

abbrev pub is_printable : ℕ → Bool
is_printable c = is_in_range 32 126 c

abbrev pub is_escaped : ℕ → Bool
is_escaped c = (c == 34) || (c == 92)

-- the bytes after characters and the closing quote; the test says whether a backslash came just before
abbrev pub after_characters : Bool → List ℕ → Result (List ℕ) (List ℕ)
after_characters behind [] = Err []
after_characters true (c ∷ cs) = if is_escaped c then after_characters false cs else Err (c ∷ cs)
after_characters false (c ∷ cs) =
    if c == 34 then Ok cs
    else if c == 92 then after_characters true cs
    else if is_printable c then after_characters false cs
    else Err (c ∷ cs)

-- a str
unfoldable pub str_at : List ℕ → Result (List ℕ × List ℕ) (List ℕ)
str_at text = do
  characters ← word_at text (34 ∷ [])
  after ← after_characters false characters
  Ok (split_before text after)

-- just this word
abbrev pub spelled_at : List ℕ → List ℕ → Result (List ℕ × List ℕ) (List ℕ)
spelled_at text word = up_to text (word_at text word)

-- a value
unfoldable pub value_at : List ℕ → Result (List ℕ × List ℕ) (List ℕ)
value_at [] = int_at []
value_at (c ∷ rest) =
    if c == 34 then str_at (c ∷ rest)
    else if c == 116 then spelled_at (c ∷ rest) (codes "true")
    else if c == 102 then spelled_at (c ∷ rest) (codes "false")
    else int_at (c ∷ rest)

-- the bytes after `int`, `bool` or `str`
abbrev pub after_kind : List ℕ → Result (List ℕ) (List ℕ)
after_kind [] = word_at [] (codes "str")
after_kind (c ∷ rest) =
    if c == 105 then word_at (c ∷ rest) (codes "int")
    else if c == 98 then word_at (c ∷ rest) (codes "bool")
    else word_at (c ∷ rest) (codes "str")

-- `?int`, `?bool` or `?str`
unfoldable pub formal_at : List ℕ → Result (List ℕ × List ℕ) (List ℕ)
formal_at text = do
  kind ← word_at text (63 ∷ [])
  after ← after_kind kind
  Ok (split_before text after)

-- a place of a template
unfoldable pub place_at : List ℕ → Result (List ℕ × List ℕ) (List ℕ)
place_at [] = value_at []
place_at (c ∷ rest) = if c == 63 then formal_at (c ∷ rest) else value_at (c ∷ rest)

-- what stands behind a place: a comma and a space, and then the next place; or the closing parenthesis, with which the
-- text ends
unfoldable pub after_place : List ℕ → Result (Option (List ℕ)) (List ℕ)
after_place [] = Err []
after_place (c ∷ rest) = if c == 41 then closing rest else word_at (c ∷ rest) (codes ", ") >>= λ next. Ok (Some next)
  where
    closing : List ℕ → Result (Option (List ℕ)) (List ℕ)
    closing [] = Ok None
    closing (d ∷ more) = Err (d ∷ more)

-- a digit or more and nothing else
abbrev pub is_numeral : List ℕ → Bool
is_numeral digits = nat_lt 0 (length digits) && all_ascii_digits digits

abbrev pub is_i64 : ℤ → Bool
is_i64 z = nat_lt (mag z) (2 ^ 63)

-- the number that a sign and digits spell, where it has 64 bits
unfoldable pub int_of : List ℕ → Option ℤ
int_of spelling = if is_numeral (without_leading_sign spelling) && is_i64 (signed_digits_value 10 spelling)
    then Some (signed_digits_value 10 spelling) else None

-- what stands between the quotes
abbrev pub between_quotes : List ℕ → List ℕ
between_quotes [] = []
between_quotes (c ∷ rest) = take (length rest - 1) rest

-- a backslash that is not behind a backslash, the test of which comes first
abbrev pub is_escape : Bool → ℕ → Bool
is_escape behind c = not behind && (c == 92)

-- the characters without the backslashes in front of them; the test says whether one came just before
abbrev pub unescaped : Bool → List ℕ → List ℕ
unescaped behind [] = []
unescaped behind (c ∷ cs) = (if is_escape behind c then [] else c ∷ []) ++ unescaped (is_escape behind c) cs

-- the characters of a str
abbrev pub characters_of : List ℕ → List ℕ
characters_of spelling = unescaped false (between_quotes spelling)

-- the str of these characters, where they are at most `MAX_CHARACTERS` and printable
abbrev pub str_of : List ℕ → Option Value
str_of cs = if nat_le (length cs) MAX_CHARACTERS && list_all is_printable cs then Some (Str cs) else None

abbrev pub int_value_of : List ℕ → Option Value
int_value_of spelling = option_map (λ n. Int n) (int_of spelling)

-- the value with this spelling
unfoldable pub value_of : List ℕ → Option Value
value_of [] = int_value_of []
value_of (c ∷ rest) =
    if c == 34 then str_of (characters_of (c ∷ rest))
    else if c == 116 then Some (Truth true)
    else if c == 102 then Some (Truth false)
    else int_value_of (c ∷ rest)

-- the place with this spelling
unfoldable pub place_of : List ℕ → Option Place
place_of spelling =
    if pointwise nat_eq spelling (codes "?int") then Some (Formal kinds.Int)
    else if pointwise nat_eq spelling (codes "?str") then Some (Formal kinds.Str)
    else if pointwise nat_eq spelling (codes "?bool") then Some (Formal kinds.Bool)
    else option_map (λ v. Actual v) (value_of spelling)

-- the place is no int outside 64 bits
unfoldable pub has_range : List ℕ → Bool
has_range [] = is_some (int_of [])
has_range (c ∷ rest) =
    if (c == 34) || (c == 63) || (c == 116) || (c == 102) then true else is_some (int_of (c ∷ rest))

-- the place is no str of more than `MAX_CHARACTERS` characters
unfoldable pub is_short : List ℕ → Bool
is_short [] = true
is_short (c ∷ rest) = if c == 34 then nat_le (length (characters_of (c ∷ rest))) MAX_CHARACTERS else true
