-- Where in a scenario a line stands.
-- Cited by Parts, part.rt, `part::part_of`.
use Rattle.std.specs.Prelude.{ℕ, zero, suc, ◌-◌, List, [], ◌∷◌, codes, if◌then◌else◌}
use Rattle.kt_text.specs.Lines.{is_ignored, is_word}
use Rattle.kt_text.specs.Reading.{lines_of}
use Rattle.kt_explain.specs.declared.part.Part.{Part}
use Rattle.kt_explain.specs.declared.part.Part.TheVariants as parts

-- the part behind this line of a script
abbrev pub behind_script : List ℕ → Part
behind_script line =
    if is_word line (codes "steps") then parts.Steps
    else if is_word line (codes "faults") then parts.Faults
    else parts.Scripts

-- the part behind this line of the work, which stands in this part
abbrev pub behind_work : Part → List ℕ → Part
behind_work part line = if is_word line (codes "end") then parts.Ended else part

-- the part behind this line of a part, which is not ignored
abbrev pub behind_told : Part → List ℕ → Part
behind_told parts.Title line = parts.Shards
behind_told parts.Shards line = parts.Workers
behind_told parts.Workers line = parts.Scripts
behind_told parts.Scripts line = behind_script line
behind_told parts.Steps line = behind_work parts.Steps line
behind_told parts.Faults line = behind_work parts.Faults line
behind_told parts.Ended line = parts.Ended

-- the part behind this line of a part
abbrev pub part_behind : Part → List ℕ → Part
part_behind part line = if is_ignored line then part else behind_told part line

-- the part behind so many of these lines, the first of which stands in this part; behind all where there are fewer
unfoldable pub part_after : Part → ℕ → List (List ℕ) → Part
part_after part zero lines = part
part_after part (suc n) [] = part
part_after part (suc n) (line ∷ lines) = part_after (part_behind part line) n lines

-- the part in which the line of this number stands, counted from 1
abbrev pub part_at : List ℕ → ℕ → Part
part_at text n = part_after parts.Title (n - 1) (lines_of text).0
