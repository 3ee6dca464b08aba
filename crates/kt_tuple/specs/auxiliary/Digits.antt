-- Where the digits of a text end.
-- Cited by Readers, reading.rt.
use Rattle.std.specs.Char.{is_ascii_digit}
use Rattle.std.specs.Prelude.{ℕ, Bool, not}

abbrev pub is_no_digit : ℕ → Bool
is_no_digit c = not (is_ascii_digit c)
