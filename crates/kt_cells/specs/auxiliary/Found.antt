-- What is found, and the lines of it.
-- Cited by Added, Saved, cells.rt, node_cells.rt, request_cells.rt, saved_cells.rt.
use Rattle.std.specs.Prelude.{ℕ, List, [], ◌∷◌, Option, None, Some}
use Rattle.kt_store.specs.declared.rows.NodeRow.{NodeRow}
use Rattle.kt_store.specs.Content.{Content, verdict_on}
use Rattle.kt_cells.specs.Cells.{Lines, permanent_len, tentative_lines}

-- the line of what is there
abbrev pub line_if : {X : Type 0} → (X → List ℕ) → Option X → Lines
line_if line None = []
line_if line (Some x) = line x ∷ []

-- how many acts the permanent checkpoint of this row holds
abbrev pub permanent_in : Content → Option NodeRow → ℕ
permanent_in c None = 0
permanent_in c (Some row) = permanent_len row (verdict_on c row.tentative)

abbrev pub tentative_in : Option NodeRow → Lines
tentative_in None = []
tentative_in (Some row) = tentative_lines row.tentative
