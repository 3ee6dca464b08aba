-- The variables of a script: its names in the order in which the text first binds them.
-- Cited by Count, Held, InScript, Known, Limits, OneKind, Pushed, Reaches, Unbound, laws.rt, rules.rt, script.rt,
--   specs/Asks, specs/Memory, specs/Next, specs/Rules, specs/auxiliary/Counting, variables.rt, `Script::has_next`,
--   `variables::bind_all`; other crates.
use Rattle.std.specs.Prelude.{List, [], ◌∷◌, ◌++◌, Option, is_some, if◌then◌else◌, fold, flat_map}
use Rattle.std.specs.Map.{lookup}
use Rattle.kt_tuple.specs.declared.value.Kind.{Kind}
use Rattle.kt_script.specs.declared.name.Name.{Name}
use Rattle.kt_script.specs.declared.command.Command.{Command}
use Rattle.kt_script.specs.Name.{same_name}
use Rattle.kt_script.specs.Command.{bindings}

-- the kind that the name has in a list of bindings: that of its first one
abbrev pub kind_in : List (Name × Kind) → Name → Option Kind
kind_in variables name = lookup (same_name name) variables

-- a name that is not bound yet goes last
abbrev pub with_binding : List (Name × Kind) → Name × Kind → List (Name × Kind)
with_binding variables binding =
    if is_some (kind_in variables binding.0) then variables else variables ++ binding ∷ []

abbrev pub with_bindings : List (Name × Kind) → List (Name × Kind) → List (Name × Kind)
with_bindings variables more = fold with_binding variables more

-- the names that the commands bind, each once, in the order of their first bindings, and with their kinds
abbrev pub variables_of : List Command → List (Name × Kind)
variables_of commands = with_bindings [] (flat_map bindings commands)
