-- What the commands of a script bind and use.
-- Cited by Held, InScript, Known, Limits, OneKind, Pushed, Reaches, command.rt, laws.rt, rules.rt, specs/Asks,
--   specs/Next, specs/Rules, specs/Variables, `command::slot_bindings`; other crates.
use Rattle.std.specs.Prelude.{List, [], ◌∷◌, None, Some, flat_map}
use Rattle.kt_tuple.specs.declared.value.Kind.{Kind}
use Rattle.kt_tuple.specs.declared.value.Kind.TheVariants as kinds
use Rattle.kt_script.specs.declared.name.Name.{Name}
use Rattle.kt_script.specs.declared.command.Slot.{Slot}
use Rattle.kt_script.specs.declared.command.Slot.TheVariants as slots
use Rattle.kt_script.specs.declared.command.Operation.{Operation}
use Rattle.kt_script.specs.declared.command.Operation.TheVariants.{Out, In, Rd, Inp, Rdp}
use Rattle.kt_script.specs.declared.command.Command.{Command}
use Rattle.kt_script.specs.declared.command.Command.TheVariants.{Ask, Set, Unless}

-- the places of the operation that may bind a name: `out` has none
abbrev pub slots_of : Operation → List Slot
slots_of (Out actuals) = []
slots_of (In pattern) = pattern
slots_of (Rd pattern) = pattern
slots_of (Inp pattern) = pattern
slots_of (Rdp pattern) = pattern

-- a formal with a name binds it
abbrev pub slot_bindings : Slot → List (Name × Kind)
slot_bindings (slots.Actual actual) = []
slot_bindings (slots.Formal kind None) = []
slot_bindings (slots.Formal kind (Some name)) = (name, kind) ∷ []

-- the names that the command binds, from left to right, each with the kind of its values
abbrev pub bindings : Command → List (Name × Kind)
bindings (Ask operation) = flat_map slot_bindings (slots_of operation)
bindings (Set variable source plus) = (variable, kinds.Int) ∷ []
bindings (Unless count) = []
