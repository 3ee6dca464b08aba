-- What names stand for where the variables and their values lie side by side.
-- Cited by meaning.rt, `Scope::places_of`, `Scope::values_of`.
use Rattle.kt_script.specs.declared.meaning.Scope.{Scope}
use Rattle.kt_script.specs.Meaning.{Meaning}
use Rattle.kt_script.specs.Memory.{held}

abbrev pub meaning_in : Scope → Meaning
meaning_in scope = held scope.variables.now.entries scope.values.now
