-- What is said of an exit status.
-- Cited by Tables, status_table.rt.
use Rattle.std.specs.Prelude.{Bool, ◌&&◌}
use Rattle.kt_words.specs.declared.status_table.StatusWords.{StatusWords}
use Rattle.kt_words.specs.Plain.{is_plain}

-- all that is said of it is printable
abbrev pub is_plain_status : StatusWords → Bool
is_plain_status status = is_plain status.number.now && is_plain status.text.now
