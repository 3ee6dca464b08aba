-- The kinds of a tuple, a template or an operation, as one number, and the shard that is their home.
-- Cited by Homes, Signatures, laws.rt, op.rt, signature.rt, template.rt, tuple.rt, `template::signature_of`,
--   `tuple::signature_of`; other crates.
use Rattle.std.specs.Prelude.{ℕ, ◌+◌, ◌*◌, ◌%◌, List, map, fold}
use Rattle.kt_tuple.specs.declared.value.Value.{Value}
use Rattle.kt_tuple.specs.declared.value.Kind.{Kind}
use Rattle.kt_tuple.specs.declared.value.Kind.TheVariants as kinds
use Rattle.kt_tuple.specs.declared.template.Place.{Place}
use Rattle.kt_tuple.specs.declared.template.Place.TheVariants.{Actual, Formal}
use Rattle.kt_tuple.specs.declared.op.Op.{Op}
use Rattle.kt_tuple.specs.declared.op.Op.TheVariants.{Out, In, Rd, Inp, Rdp}
use Rattle.kt_tuple.specs.Value.{kind_of}

abbrev pub code_of : Kind → ℕ
code_of kinds.Int = 1
code_of kinds.Str = 2
code_of kinds.Bool = 3

abbrev pub kind_of_place : Place → Kind
kind_of_place (Actual v) = kind_of v
kind_of_place (Formal k) = k

abbrev pub kinds_of : List Value → List Kind
kinds_of values = map kind_of values

abbrev pub kinds_of_places : List Place → List Kind
kinds_of_places places = map kind_of_place places

abbrev pub kinds_of_op : Op → List Kind
kinds_of_op (Out u) = kinds_of u
kinds_of_op (In t) = kinds_of_places t
kinds_of_op (Rd t) = kinds_of_places t
kinds_of_op (Inp t) = kinds_of_places t
kinds_of_op (Rdp t) = kinds_of_places t

-- the codes as the digits of a number in base 5, the first place's digit the highest
abbrev pub signature_of : List Kind → ℕ
signature_of kinds = fold (λ number kind. 5 * number + code_of kind) 0 kinds

-- which of the shards holds tuples of these kinds, counted from 1
abbrev pub shard_of : ℕ → List Kind → ℕ
shard_of shards kinds = signature_of kinds % shards + 1
