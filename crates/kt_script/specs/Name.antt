-- What may name a variable.
-- Cited by Count, Held, InScript, Known, OneKind, PlaceLemmas, Pushed, name.rt, specs/Meaning, specs/Memory,
--   specs/Variables, variables.rt; other crates.
use Rattle.std.specs.Char.{is_ascii_digit}
use Rattle.std.specs.Cmp.Lexicographic.{pointwise}
use Rattle.std.specs.Int.{is_in_range}
use Rattle.std.specs.List.{list_all}
use Rattle.std.specs.Prelude.{ℕ, ◌==◌, nat_eq, nat_le, Bool, false, not, ◌&&◌}
use Rattle.std.specs.Prelude.{◌||◌, List, [], ◌∷◌, length, codes, IsTrue}
use Rattle.kt_script.specs.declared.name.TheConstants.{MAX_NAME}

-- two names are one
abbrev pub same_name : List ℕ → List ℕ → Bool
same_name a b = pointwise nat_eq a b

-- a to z
abbrev pub is_letter : ℕ → Bool
is_letter c = is_in_range 97 122 c

-- a to z, 0 to 9 and `_`
abbrev pub is_name_character : ℕ → Bool
is_name_character c = is_letter c || is_ascii_digit c || (c == 95)

abbrev pub begins_with_letter : List ℕ → Bool
begins_with_letter [] = false
begins_with_letter (c ∷ cs) = is_letter c

-- the words that are no names
unfoldable pub is_reserved : List ℕ → Bool
is_reserved word = same_name word (codes "int") || same_name word (codes "str") || same_name word (codes "bool")
    || same_name word (codes "true") || same_name word (codes "false")

-- a letter and up to 15 letters, digits and `_`, and no reserved word
abbrev pub is_name : List ℕ → Bool
is_name word =
    begins_with_letter word && nat_le (length word) MAX_NAME && list_all is_name_character word
    && not (is_reserved word)

abbrev pub IsName : List ℕ → Type 0
IsName word = IsTrue (is_name word)
