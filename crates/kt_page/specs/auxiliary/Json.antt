-- Text as a JSON string that may stand within a `script` of HTML: no `<` is in it.
-- Cited by json.rt, `json::push_string`.
use Rattle.std.specs.Prelude.{ℕ, ◌==◌, if◌then◌else◌, List, [], ◌∷◌, ◌++◌, codes}
use Rattle.std.specs.List.{flat_map}

-- code 26 is the arrow
abbrev pub character_json : ℕ → List ℕ
character_json c =
    if c == 34 then codes "\\\"" else
    (if c == 92 then codes "\\\\" else
    (if c == 60 then codes "\\u003c" else
    (if c == 26 then codes "\\u2192" else c ∷ [])))

abbrev pub string_json : List ℕ → List ℕ
string_json text = 34 ∷ flat_map character_json text ++ 34 ∷ []
