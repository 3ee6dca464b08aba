-- Services as one run of the sequential space, and what one of them takes out.
-- Cited by space.rt, `space::space_of`; other crates.
use Rattle.std.specs.Prelude.{List}
use Rattle.kt_tuple.specs.declared.tuple.Tuple.{Tuple}
use Rattle.kt_tuple.specs.declared.service.Service.{Service}
use Rattle.kt_tuple.specs.Space.{IsSpaceRun}

-- the services are one run of a space that was empty at first
abbrev pub IsRun : List Service → Type 0
IsRun services = (tuples : List Tuple) × IsSpaceRun services tuples
