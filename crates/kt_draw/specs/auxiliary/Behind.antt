-- What is drawn of rows is put behind a text.
-- Cited by Drawn, row.rt, `row::push_rows`.
use Rattle.std.specs.Prelude.{◌≡◌, ℕ, List, ◌++◌}
use Rattle.kt_trace.specs.declared.traced.TracedStep.{TracedStep}
use Rattle.kt_draw.specs.Rows.{AreDrawn}

-- this begin of a row is put behind the text, and what is said of the row behind that
abbrev pub IsRowBehind : List ℕ → (List ℕ → Type 0) → List ℕ → List ℕ → Type 0
IsRowBehind begin says old new = (words : List ℕ) × says words × (new ≡ old ++ (begin ++ words))

-- the rows are put behind the text
abbrev pub IsDrawnBehind : (TracedStep → List ℕ) → (TracedStep → List ℕ → Type 0) → List TracedStep → List ℕ
    → List ℕ → Type 0
IsDrawnBehind begin says rows old new = (drawn : List ℕ) × AreDrawn begin says rows drawn × (new ≡ old ++ drawn)
