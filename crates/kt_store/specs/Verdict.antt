-- What became of an instance.
-- Cited by Board, Numbered, OtherInstances, instance_row.rt, laws.rt, rows.rt, specs/Changes, specs/Content,
--   specs/auxiliary/Rising, `Contents::settle`; other crates.
use Rattle.std.specs.Prelude.{Bool, true, false}
use Rattle.kt_store.specs.declared.rows.Verdict.{Verdict}
use Rattle.kt_store.specs.declared.rows.Verdict.TheVariants.{Open, Yes, No}

-- there is no verdict yet
abbrev pub is_open : Verdict → Bool
is_open Open = true
is_open Yes = false
is_open No = false

abbrev pub verdict_from : Bool → Verdict
verdict_from true = Yes
verdict_from false = No
