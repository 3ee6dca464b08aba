-- What is said of an entry of a trace.
-- Cited by Pieces, rows_json.rt, words.rt, `rows_json::json_of`, `words::words_of`.
use Rattle.std.specs.Prelude.{ℕ, if◌then◌else◌, List, []}
use Rattle.kt_trace.specs.declared.traced.Traced.{Traced}
use Rattle.kt_tell.specs.declared.choice.Choice.{Choice}
use Rattle.kt_tell.specs.Chosen.{is_chosen}

-- what is said of an entry, where it is told
abbrev pub chosen_text : (Traced → List ℕ) → Choice → Traced → List ℕ
chosen_text line choice entry = if is_chosen choice entry then line entry else []
