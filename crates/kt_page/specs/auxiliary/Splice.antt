-- A change of lines.
-- Cited by Changes, splice.rt.
use Rattle.std.specs.Prelude.{ℕ, ◌+◌, List, ◌++◌, take, drop}

-- at this place so many lines are taken out, and these are put there
abbrev pub put : {A : Type 0} → ℕ → ℕ → List A → List A → List A
put at gone come lines = take at lines ++ come ++ drop (at + gone) lines
