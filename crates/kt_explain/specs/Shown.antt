-- What is written: printable ASCII and line feeds.
-- Cited by explain.rt, shown.rt, `shown::push_shown`, `shown::push_widths`.
use Rattle.std.specs.Int.{is_in_range}
use Rattle.std.specs.List.{list_all}
use Rattle.std.specs.Prelude.{ℕ, Bool, List, ◌==◌, ◌||◌, IsTrue}

-- a line feed, or a byte that a terminal shows as it stands
abbrev pub is_plain_byte : ℕ → Bool
is_plain_byte c = c == 10 || is_in_range 32 126 c

-- such bytes alone
abbrev pub IsPlain : List ℕ → Type 0
IsPlain text = IsTrue (list_all is_plain_byte text)
