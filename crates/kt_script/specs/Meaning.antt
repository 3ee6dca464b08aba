-- What a command means where the variables have values: what it asks for, and what it binds.
-- Cited by Held, InScript, Reaches, Unbound, env.rt, laws.rt, meaning.rt, next.rt, specs/Asks, specs/Memory,
--   specs/Next, specs/auxiliary/Scope, variables.rt, `Scope::places_of`, `Scope::values_of`; other crates.
use Rattle.std.specs.Prelude.{ℤ, pos, Bool, false, if◌then◌else◌, List, [], ◌∷◌, map, Option, None, Some}
use Rattle.std.specs.Int.{saturate_signed, w64}
use Rattle.std.specs.Prelude.{◌+ℤ◌}
use Rattle.std.specs.Cmp.Lexicographic.{pointwise}
use Rattle.kt_tuple.specs.declared.value.Value.{Value}
use Rattle.kt_tuple.specs.declared.value.Value.TheVariants.{Int, Str, Bool as Truth}
use Rattle.kt_tuple.specs.declared.value.Kind.{Kind}
use Rattle.kt_tuple.specs.declared.value.Kind.TheVariants as kinds
use Rattle.kt_tuple.specs.declared.template.Place.{Place}
use Rattle.kt_tuple.specs.declared.template.Place.TheVariants as places
use Rattle.kt_tuple.specs.declared.op.Op.{Op}
use Rattle.kt_tuple.specs.declared.op.Op.TheVariants as ops
use Rattle.kt_tuple.specs.declared.op.Answer.{Answer}
use Rattle.kt_tuple.specs.declared.op.Answer.TheVariants as answers
use Rattle.kt_tuple.specs.Equality.{kind_eq}
use Rattle.kt_tuple.specs.Signature.{kinds_of, kinds_of_places}
use Rattle.kt_script.specs.declared.name.Name.{Name}
use Rattle.kt_script.specs.declared.command.Actual.{Actual}
use Rattle.kt_script.specs.declared.command.Actual.TheVariants.{Literal, Variable}
use Rattle.kt_script.specs.declared.command.Slot.{Slot}
use Rattle.kt_script.specs.declared.command.Slot.TheVariants as slots
use Rattle.kt_script.specs.declared.command.Operation.{Operation}
use Rattle.kt_script.specs.declared.command.Operation.TheVariants.{Out, In, Rd, Inp, Rdp}
use Rattle.kt_script.specs.Name.{same_name}

-- what each name stands for
abbrev pub Meaning : Type 0
Meaning = Name → Value

-- a variable is 0, the empty string or `false` until it is bound
abbrev pub zero_of : Option Kind → Value
zero_of None = Int (pos 0)
zero_of (Some kinds.Int) = Int (pos 0)
zero_of (Some kinds.Str) = Str []
zero_of (Some kinds.Bool) = Truth false

abbrev pub value_of_actual : Meaning → Actual → Value
value_of_actual meaning (Literal value) = value
value_of_actual meaning (Variable name) = meaning name

abbrev pub place_of_slot : Meaning → Slot → Place
place_of_slot meaning (slots.Actual actual) = places.Actual (value_of_actual meaning actual)
place_of_slot meaning (slots.Formal kind name) = places.Formal kind

abbrev pub template_of : Meaning → List Slot → List Place
template_of meaning pattern = map (place_of_slot meaning) pattern

-- the operation as it is sent: values and bare formals
abbrev pub op_of : Meaning → Operation → Op
op_of meaning (Out actuals) = ops.Out (map (value_of_actual meaning) actuals)
op_of meaning (In pattern) = ops.In (template_of meaning pattern)
op_of meaning (Rd pattern) = ops.Rd (template_of meaning pattern)
op_of meaning (Inp pattern) = ops.Inp (template_of meaning pattern)
op_of meaning (Rdp pattern) = ops.Rdp (template_of meaning pattern)

-- the value plus a number, held at the ends of 64 bits
abbrev pub plus : Value → ℤ → Value
plus (Int n) k = Int (saturate_signed w64 (n +ℤ k))
plus (Str s) k = Int k
plus (Truth b) k = Int k

-- the name stands for the value from now on
abbrev pub with_value : Meaning → Name → Value → Meaning
with_value meaning name value other = if same_name other name then value else meaning other

-- the formal's name, where it has one, stands for the value from now on
abbrev pub with_slot : Meaning → Slot → Value → Meaning
with_slot meaning (slots.Actual actual) value = meaning
with_slot meaning (slots.Formal kind None) value = meaning
with_slot meaning (slots.Formal kind (Some name)) value = with_value meaning name value

-- the formals are bound from left to right
abbrev pub with_tuple : Meaning → List Slot → List Value → Meaning
with_tuple meaning [] values = meaning
with_tuple meaning (slot ∷ later) [] = meaning
with_tuple meaning (slot ∷ later) (value ∷ more) = with_tuple (with_slot meaning slot value) later more

-- the tuple has the kinds of the template as it was sent
abbrev pub has_kinds : Meaning → List Slot → List Value → Bool
has_kinds meaning pattern tuple = pointwise kind_eq (kinds_of_places (template_of meaning pattern)) (kinds_of tuple)

-- a tuple that was got binds the formals, unless it has other kinds
abbrev pub after_answer : Meaning → List Slot → Answer → Meaning
after_answer meaning pattern answers.Done = meaning
after_answer meaning pattern (answers.Got tuple) =
    if has_kinds meaning pattern tuple then with_tuple meaning pattern tuple else meaning
after_answer meaning pattern answers.None = meaning
