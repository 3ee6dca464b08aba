-- How large the tables of a world are.
-- Cited by Opened, Resuming, Scene, specs/Reached, specs/Resumed, specs/auxiliary/Ready; other crates.
use Rattle.std.specs.Prelude.{ℕ, ◌*◌}
use Rattle.kt_shard.specs.Limits.{sessions}

-- the rows of a table with one for each node: workers and shards have the numbers that have a session
abbrev pub rows : ℕ
rows = 2 * sessions
