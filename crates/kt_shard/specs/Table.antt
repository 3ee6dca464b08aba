-- Tables with an entry for each number.
-- Cited by Tables, Written, laws.rt, specs/Shard; other crates.
use Rattle.std.specs.Prelude.{ℕ, zero, suc, List, [], ◌∷◌, slice_index_or}

-- the entry of a number: d where nothing was put
abbrev pub at : {A : Type 0} → A → List A → ℕ → A
at d table k = slice_index_or table k d

-- the table with another entry for one number
unfoldable pub put : {A : Type 0} → A → List A → ℕ → A → List A
put d [] zero y = y ∷ []
put d [] (suc k) y = d ∷ put d [] k y
put d (x ∷ xs) zero y = y ∷ xs
put d (x ∷ xs) (suc k) y = x ∷ put d xs k y
