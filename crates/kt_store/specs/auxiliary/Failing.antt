-- A store of which one call fails.
-- Cited by Faulting, faulty.rt.
use Rattle.std.specs.Prelude.{Bool, true, false}
use Rattle.kt_store.specs.Calls.{Counts, raised}

-- the counts of the store below, with one fault more, if it came
abbrev pub with_fault : Bool → Counts → Counts
with_fault false c = c
with_fault true c = record c { faults = raised c.faults }
