-- What a worker keeps between two operations of its script: a value for each variable, and whether the last
-- answer was none.
-- Cited by Held, InScript, Limits, PlaceLemmas, Reaches, Remains, Unbound, env.rt, laws.rt, meaning.rt, next.rt,
--   script.rt, specs/Next, specs/auxiliary/Scope, variables.rt, `variables::zeros_of`; other crates.
use Rattle.std.specs.Prelude.{pos, Bool, false, if◌then◌else◌, List, [], ◌∷◌, map, Option, None, Some}
use Rattle.std.specs.Map.{values_of}
use Rattle.std.specs.Cmp.Lexicographic.{pointwise}
use Rattle.kt_tuple.specs.declared.value.Value.{Value}
use Rattle.kt_tuple.specs.declared.value.Value.TheVariants.{Int}
use Rattle.kt_tuple.specs.declared.value.Kind.{Kind}
use Rattle.kt_tuple.specs.declared.op.Answer.{Answer}
use Rattle.kt_tuple.specs.declared.op.Answer.TheVariants as answers
use Rattle.kt_tuple.specs.Equality.{kind_eq}
use Rattle.kt_tuple.specs.Signature.{kinds_of}
use Rattle.kt_script.specs.declared.name.Name.{Name}
use Rattle.kt_script.specs.declared.command.Slot.{Slot}
use Rattle.kt_script.specs.declared.command.Slot.TheVariants as slots
use Rattle.kt_script.specs.declared.command.Command.{Command}
use Rattle.kt_script.specs.Name.{same_name}
use Rattle.kt_script.specs.Variables.{variables_of}
use Rattle.kt_script.specs.Meaning.{zero_of, has_kinds}

-- the values, in the order of the variables
pub record Memory : Type 0 where
  pub values : List Value
  pub was_none : Bool

-- each variable is 0, the empty string or `false`
abbrev pub zeros_of : List (Name × Kind) → List Value
zeros_of variables = map (λ v. zero_of (Some v.1)) variables

-- before any answer
abbrev pub opening_memory : List Command → Memory
opening_memory script = record { values = zeros_of (variables_of script); was_none = false }

-- there is one value for each variable, of its kind
abbrev pub are_values_of : List (Name × Kind) → List Value → Bool
are_values_of variables values = pointwise kind_eq (values_of variables) (kinds_of values)

-- what is kept, made of its parts, where the values are the variables'
abbrev pub memory_of : List Command → List Value → Bool → Option Memory
memory_of script values was_none =
    if are_values_of (variables_of script) values then Some (record { values = values; was_none = was_none }) else None

-- the value of the name
abbrev pub held : List (Name × Kind) → List Value → Name → Value
held [] values name = Int (pos 0)
held (v ∷ variables) [] name = Int (pos 0)
held (v ∷ variables) (value ∷ values) name = if same_name name v.0 then value else held variables values name

-- the values with this one for the name
abbrev pub with_held : List (Name × Kind) → List Value → Name → Value → List Value
with_held [] values name value = values
with_held (v ∷ variables) [] name value = []
with_held (v ∷ variables) (old ∷ values) name value =
    if same_name name v.0 then value ∷ values else old ∷ with_held variables values name value

abbrev pub with_slot_held : List (Name × Kind) → List Value → Slot → Value → List Value
with_slot_held variables values (slots.Actual actual) value = values
with_slot_held variables values (slots.Formal kind None) value = values
with_slot_held variables values (slots.Formal kind (Some name)) value = with_held variables values name value

-- the formals are bound from left to right
abbrev pub with_tuple_held : List (Name × Kind) → List Value → List Slot → List Value → List Value
with_tuple_held variables values [] tuple = values
with_tuple_held variables values (slot ∷ later) [] = values
with_tuple_held variables values (slot ∷ later) (value ∷ more) =
    with_tuple_held variables (with_slot_held variables values slot value) later more

-- the values after an answer to a template
abbrev pub values_after : List (Name × Kind) → List Value → List Slot → Answer → List Value
values_after variables values pattern answers.Done = values
values_after variables values pattern (answers.Got tuple) =
    if has_kinds (held variables values) pattern tuple then with_tuple_held variables values pattern tuple else values
values_after variables values pattern answers.None = values
