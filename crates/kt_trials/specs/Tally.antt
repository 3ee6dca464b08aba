-- The tally of a list of reports, as text: each different report once, and how often it came.
-- Cited by Firsts, Told, specs/Runs, specs/auxiliary/Telling, tally.rt, times.rt, `tally::tally_of`.
use Rattle.std.specs.Prelude.{ℕ, not, List, [], ◌∷◌, ◌++◌, length, filter, count_by, codes, decimal, bytes_eq}
use Rattle.std.specs.List.{flat_map}
use Rattle.kt_text.specs.Text.{line_end}

-- each report of the list once, in the order in which it first comes
abbrev pub firsts : List (List ℕ) → List (List ℕ)
firsts [] = []
firsts (report ∷ later) = report ∷ filter (λ other. not (bytes_eq report other)) (firsts later)

-- how often the report is in the list
abbrev pub times_in : List (List ℕ) → List ℕ → ℕ
times_in reports report = count_by (λ other. bytes_eq other report) reports

-- so many of so many runs
abbrev pub times_line : (times all : ℕ) → List ℕ
times_line times all = codes "# " ++ decimal times ++ codes " of " ++ decimal all ++ codes " runs" ++ line_end

-- how often the report came, and its lines
abbrev pub told : List (List ℕ) → List ℕ → List ℕ
told reports report = times_line (times_in reports report) (length reports) ++ report

abbrev pub tally_text : List (List ℕ) → List ℕ
tally_text reports = flat_map (told reports) (firsts reports)
