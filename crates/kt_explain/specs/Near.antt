-- Which word is near to one that is misspelt.
-- Cited by Nearer, near.rt, `near::nearest_below`.
use Rattle.std.specs.Prelude.{ℕ, ◌≤◌, List, length, nat_eq, All, Contains}
use Rattle.strsim.specs.Edits.{levenshtein_row}

-- how many characters have to be changed, taken away or put in
abbrev pub edits : List ℕ → List ℕ → ℕ
edits word other = levenshtein_row nat_eq word other (length other)

-- the word is one of these, and none of them is nearer to what was written
pub record IsNearest (written : List ℕ) (words : List (List ℕ)) (word : List ℕ) : Type 0 where
  pub member : Contains words word
  pub least : All (λ other. edits written word ≤ edits written other) words
