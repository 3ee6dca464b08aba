-- Which command may follow a script.
-- Cited by InScript, Limits, OneKind, Pushed, laws.rt, rules.rt, script.rt, `Script::append`; other crates.
use Rattle.std.specs.Prelude.{◌≡◌, nat_lt, nat_le, Bool, true, not, ◌&&◌, if◌then◌else◌}
use Rattle.std.specs.Prelude.{List, [], ◌∷◌, ◌++◌, length, Option, None, Some, is_some}
use Rattle.std.specs.List.{list_all}
use Rattle.std.specs.Option.{option_map_or}
use Rattle.kt_script.specs.declared.script.TheConstants.{MAX_COMMANDS, MAX_VARIABLES}
use Rattle.kt_tuple.specs.declared.value.Kind.{Kind}
use Rattle.kt_tuple.specs.declared.value.Kind.TheVariants as kinds
use Rattle.kt_tuple.specs.Equality.{kind_eq}
use Rattle.kt_script.specs.declared.name.Name.{Name}
use Rattle.kt_script.specs.declared.command.Actual.{Actual}
use Rattle.kt_script.specs.declared.command.Actual.TheVariants.{Literal, Variable}
use Rattle.kt_script.specs.declared.command.Slot.{Slot}
use Rattle.kt_script.specs.declared.command.Slot.TheVariants as slots
use Rattle.kt_script.specs.declared.command.Operation.{Operation}
use Rattle.kt_script.specs.declared.command.Operation.TheVariants.{Out, In, Rd, Inp, Rdp}
use Rattle.kt_script.specs.declared.command.Command.{Command}
use Rattle.kt_script.specs.declared.command.Command.TheVariants.{Ask, Set, Unless}
use Rattle.kt_script.specs.declared.script_error.ScriptError.{ScriptError}
use Rattle.kt_script.specs.declared.script_error.ScriptError.TheVariants as refusals
use Rattle.kt_script.specs.Command.{bindings}
use Rattle.kt_script.specs.Variables.{kind_in, with_bindings, variables_of}

-- a variable that an actual uses is bound
abbrev pub is_bound : List (Name × Kind) → Actual → Bool
is_bound variables (Literal value) = true
is_bound variables (Variable name) = is_some (kind_in variables name)

abbrev pub is_slot_bound : List (Name × Kind) → Slot → Bool
is_slot_bound variables (slots.Actual actual) = is_bound variables actual
is_slot_bound variables (slots.Formal kind name) = true

abbrev pub are_slots_bound : List (Name × Kind) → List Slot → Bool
are_slots_bound variables places = list_all (is_slot_bound variables) places

abbrev pub are_actuals_bound : List (Name × Kind) → Operation → Bool
are_actuals_bound variables (Out actuals) = list_all (is_bound variables) actuals
are_actuals_bound variables (In pattern) = are_slots_bound variables pattern
are_actuals_bound variables (Rd pattern) = are_slots_bound variables pattern
are_actuals_bound variables (Inp pattern) = are_slots_bound variables pattern
are_actuals_bound variables (Rdp pattern) = are_slots_bound variables pattern

-- a name that has a kind has this one
abbrev pub agrees : Option Kind → Kind → Bool
agrees bound kind = option_map_or (kind_eq kind) bound true

-- each variable that the command uses is bound before it, and is an int where `set` adds to it
abbrev pub are_uses_bound : List (Name × Kind) → Command → Bool
are_uses_bound variables (Ask operation) = are_actuals_bound variables operation
are_uses_bound variables (Set variable source plus) =
    is_some (kind_in variables source) && agrees (kind_in variables source) kinds.Int
are_uses_bound variables (Unless count) = true

-- each binding has the kind that its name has before, and the next one of its name here has it too
abbrev pub are_kinds_kept : List (Name × Kind) → List (Name × Kind) → Bool
are_kinds_kept variables [] = true
are_kinds_kept variables (b ∷ more) =
    agrees (kind_in variables b.0) b.1 && agrees (kind_in more b.0) b.1 && are_kinds_kept variables more

-- the command keeps the rules of variables
abbrev pub keeps_rules : List (Name × Kind) → Command → Bool
keeps_rules variables command = are_uses_bound variables command && are_kinds_kept variables (bindings command)

-- `unless` skips one command at least, and no more than a script has
abbrev pub has_count : Command → Bool
has_count (Ask operation) = true
has_count (Set variable source plus) = true
has_count (Unless count) = nat_lt 0 count && nat_le count MAX_COMMANDS

-- with the command the script passes neither of its limits
abbrev pub is_within : List Command → Command → Bool
is_within commands command =
    has_count command && nat_lt (length commands) MAX_COMMANDS
    && nat_le (length (with_bindings (variables_of commands) (bindings command))) MAX_VARIABLES

-- why the command may not follow the script, want of memory aside
abbrev pub refusal_of : List Command → Command → Option ScriptError
refusal_of commands command =
    if not (keeps_rules (variables_of commands) command) then Some refusals.Variable
    else if not (is_within commands command) then Some refusals.Limit
    else None

-- each command may follow those before it
abbrev pub FollowOn : List Command → List Command → Type 0
FollowOn before [] = Unit {0}
FollowOn before (command ∷ later) = (refusal_of before command ≡ None) × FollowOn (before ++ command ∷ []) later

-- a script is made of commands each of which may follow those before it
abbrev pub IsScript : List Command → Type 0
IsScript commands = FollowOn [] commands
