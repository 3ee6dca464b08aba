-- Words of the command line.
-- Cited by specs/Kind, specs/Shell; other crates.
use Rattle.std.specs.Cmp.Lexicographic.{pointwise}
use Rattle.std.specs.Prelude.{ℕ, Bool, List, nat_eq}

-- the text is this word
abbrev pub is_word : List ℕ → List ℕ → Bool
is_word text word = pointwise nat_eq text word
