-- What stands for a value in texts, and what the value is then.
-- Cited by words.rt.
use Rattle.std.specs.Borrow.{Bor}
use Rattle.std.specs.Prelude.{ℕ, Bool, if◌then◌else◌, ◌||◌, List, Option, None, Some, codes}
use Rattle.kt_words.specs.declared.words.ValueKind.{ValueKind}
use Rattle.kt_words.specs.declared.words.ValueKind.TheVariants.{Flag, File, Other}
use Rattle.kt_words.specs.Word.{is_word}

-- what an option's value is
abbrev pub kind_of : Option (Bor (List ℕ)) → ValueKind
kind_of None = Flag
kind_of (Some value) = if is_word value.now (codes "FILE") then File else Other

-- an argument is the name of a file
abbrev pub is_file_name : List ℕ → Bool
is_file_name name = is_word name (codes "FILE") || is_word name (codes "SCENARIO")
