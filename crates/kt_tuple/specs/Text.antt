-- What a string may hold.
-- Cited by Strings, ValuesRead, specs/Grammar, specs/Valid, string.rt; other crates.
use Rattle.std.specs.Prelude.{ℕ, ◌≤◌, List, length, All}
use Rattle.kt_tuple.specs.declared.string.TheConstants.{MAX_CHARACTERS}

-- the printable characters of ASCII, from the space to the tilde
abbrev pub IsPrintable : ℕ → Type 0
IsPrintable c = (32 ≤ c) × (c ≤ 126)

abbrev pub ArePrintable : List ℕ → Type 0
ArePrintable cs = All IsPrintable cs

-- at most `MAX_CHARACTERS` printable characters
abbrev pub IsText : List ℕ → Type 0
IsText cs = (length cs ≤ MAX_CHARACTERS) × ArePrintable cs
