-- How many sessions a shard has.
-- Cited by Written, laws.rt, parts.rt, shard.rt, specs/Shard; other crates.
use Rattle.std.specs.Prelude.{ℕ, ◌+◌}
use Rattle.kt_tuple.specs.declared.node.TheConstants.{MAX_WORKERS}

-- the numbers that workers can have, 0 counted: so many sessions has a shard
abbrev pub sessions : ℕ
sessions = MAX_WORKERS + 1
