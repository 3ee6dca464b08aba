-- What was found when a world was resumed.
-- Cited by Kept, Lasting, Newer, Resuming, Settle, Settling, specs/Like.
use Rattle.std.specs.Prelude.{ℕ, nat_le, Bool, false, Option, None, Some}
use Rattle.kt_store.specs.declared.rows.Tentative.{Tentative}

-- the instance is one of those that were found when the world was resumed
abbrev pub was_found : Option ℕ → ℕ → Bool
was_found None i = false
was_found (Some most) i = nat_le i most

-- so is that of the tentative checkpoint
abbrev pub has_found : Option ℕ → Option Tentative → Bool
has_found f None = false
has_found f (Some t) = was_found f t.instance
