-- The one text of each command of a script.
-- Cited by writing.rt; other crates.
use Rattle.std.specs.Prelude.{ℕ, List, ◌∷◌, ◌++◌, map, codes, decimal, Some, None}
use Rattle.std.specs.Fmt.{signed_decimal}
use Rattle.kt_tuple.specs.Spelling.{value_text, kind_text, in_parentheses}
use Rattle.kt_script.specs.declared.command.Actual.{Actual}
use Rattle.kt_script.specs.declared.command.Actual.TheVariants.{Literal, Variable}
use Rattle.kt_script.specs.declared.command.Slot.{Slot}
use Rattle.kt_script.specs.declared.command.Slot.TheVariants as slots
use Rattle.kt_script.specs.declared.command.Operation.{Operation}
use Rattle.kt_script.specs.declared.command.Operation.TheVariants.{Out, In, Rd, Inp, Rdp}
use Rattle.kt_script.specs.declared.command.Command.{Command}
use Rattle.kt_script.specs.declared.command.Command.TheVariants.{Ask, Set, Unless}

-- a value, or a variable's name
abbrev pub actual_text : Actual → List ℕ
actual_text (Literal value) = value_text value
actual_text (Variable name) = name

-- an actual; or `?` and a kind, and a space and a name where there is one
abbrev pub slot_text : Slot → List ℕ
slot_text (slots.Actual actual) = actual_text actual
slot_text (slots.Formal kind None) = 63 ∷ kind_text kind
slot_text (slots.Formal kind (Some name)) = 63 ∷ kind_text kind ++ 32 ∷ name

abbrev pub pattern_text : List Slot → List ℕ
pattern_text pattern = in_parentheses (map slot_text pattern)

abbrev pub operation_text : Operation → List ℕ
operation_text (Out actuals) = codes "out " ++ in_parentheses (map actual_text actuals)
operation_text (In pattern) = codes "in " ++ pattern_text pattern
operation_text (Rd pattern) = codes "rd " ++ pattern_text pattern
operation_text (Inp pattern) = codes "inp " ++ pattern_text pattern
operation_text (Rdp pattern) = codes "rdp " ++ pattern_text pattern

abbrev pub command_text : Command → List ℕ
command_text (Ask operation) = operation_text operation
command_text (Set variable source plus) =
    codes "set " ++ variable ++ codes " = " ++ source ++ codes " + " ++ signed_decimal plus
command_text (Unless count) = codes "unless " ++ decimal count
