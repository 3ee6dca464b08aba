-- When nothing is said on standard error by a program that is done.
-- Cited by Quiet, request.rt; other crates.
use Rattle.std.specs.Prelude.{Bool, true, false, not, ◌&&◌}
use Rattle.kt_command.specs.declared.request.Telling.{Telling}
use Rattle.kt_command.specs.declared.request.Telling.TheVariants.{Nothing}
use Rattle.kt_command.specs.declared.request.Terminals.{Terminals}
use Rattle.kt_command.specs.Command.{Asked, Reads}

abbrev pub is_nothing : Telling → Bool
is_nothing Nothing = true
is_nothing telling = false

-- no explanation is asked for, and nobody watches or has to type the scenario
abbrev pub is_silent : Terminals → Asked → Bool
is_silent t (Reads done file telling) = not t.is_typed && not t.is_watched && is_nothing telling
is_silent t other = true
