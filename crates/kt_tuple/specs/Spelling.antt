-- The one text of each value, tuple, template, operation, answer, node and service.
-- Cited by PlaceLaws, PlacesRead, Separated, StrLaws, StrsRead, Texts, ValueLaws, ValuesRead, Wholes, WholesRead,
--   laws.rt, parsing.rt, writing.rt, `Template::write_to`, `Tuple::write_to`, `writing::push_in_parentheses`,
--   `writing::push_string`; other crates.
use Rattle.std.specs.Prelude.{ℕ, true, false, ◌==◌, ◌||◌, if◌then◌else◌, List, [], ◌∷◌, ◌++◌, codes, decimal, map}
use Rattle.std.specs.Fmt.{signed_decimal}
use Rattle.std.specs.List.{flat_map}
use Rattle.kt_tuple.specs.declared.value.Value.{Value}
use Rattle.kt_tuple.specs.declared.value.Value.TheVariants.{Int, Str, Bool as Truth}
use Rattle.kt_tuple.specs.declared.value.Kind.{Kind}
use Rattle.kt_tuple.specs.declared.value.Kind.TheVariants as kinds
use Rattle.kt_tuple.specs.declared.template.Place.{Place}
use Rattle.kt_tuple.specs.declared.template.Place.TheVariants.{Actual, Formal}
use Rattle.kt_tuple.specs.declared.op.Op.{Op}
use Rattle.kt_tuple.specs.declared.op.Op.TheVariants.{Out, In, Rd, Inp, Rdp}
use Rattle.kt_tuple.specs.declared.op.Answer.{Answer}
use Rattle.kt_tuple.specs.declared.op.Answer.TheVariants as answers
use Rattle.kt_tuple.specs.declared.node.NodeId.{NodeId}
use Rattle.kt_tuple.specs.declared.node.NodeId.TheVariants.{Worker, Shard}
use Rattle.kt_tuple.specs.declared.service.Service.{Service}

-- a character between quotes: a quote and a backslash behind a backslash
abbrev pub character_text : ℕ → List ℕ
character_text c = if (c == 34) || (c == 92) then 92 ∷ c ∷ [] else c ∷ []

-- the characters between quotes
abbrev pub string_text : List ℕ → List ℕ
string_text cs = 34 ∷ flat_map character_text cs ++ 34 ∷ []

-- an int in decimal, a str between quotes
abbrev pub value_text : Value → List ℕ
value_text (Int n) = signed_decimal n
value_text (Str s) = string_text s
value_text (Truth true) = codes "true"
value_text (Truth false) = codes "false"

abbrev pub kind_text : Kind → List ℕ
kind_text kinds.Int = codes "int"
kind_text kinds.Str = codes "str"
kind_text kinds.Bool = codes "bool"

-- an actual is its value, a formal its kind behind a question mark
abbrev pub place_text : Place → List ℕ
place_text (Actual v) = value_text v
place_text (Formal k) = 63 ∷ kind_text k

-- a comma and a space, and then the text
abbrev pub further : List ℕ → List ℕ
further text = 44 ∷ 32 ∷ text

-- the texts, each but the first behind a comma and a space
abbrev pub separated : List (List ℕ) → List ℕ
separated [] = []
separated (first ∷ others) = first ++ flat_map further others

-- the texts in parentheses
abbrev pub in_parentheses : List (List ℕ) → List ℕ
in_parentheses texts = 40 ∷ separated texts ++ 41 ∷ []

abbrev pub tuple_text : List Value → List ℕ
tuple_text values = in_parentheses (map value_text values)

abbrev pub template_text : List Place → List ℕ
template_text places = in_parentheses (map place_text places)

-- the operation's word, a space, and its tuple or template
abbrev pub op_text : Op → List ℕ
op_text (Out u) = codes "out " ++ tuple_text u
op_text (In t) = codes "in " ++ template_text t
op_text (Rd t) = codes "rd " ++ template_text t
op_text (Inp t) = codes "inp " ++ template_text t
op_text (Rdp t) = codes "rdp " ++ template_text t

abbrev pub answer_text : Answer → List ℕ
answer_text answers.Done = codes "done"
answer_text (answers.Got u) = codes "got " ++ tuple_text u
answer_text answers.None = codes "none"

-- `w` or `s`, and a number
abbrev pub node_text : NodeId → List ℕ
node_text (Worker n) = 119 ∷ decimal n
node_text (Shard n) = 115 ∷ decimal n

-- the worker, a dot, and the number of its request
abbrev pub request_text : Service → List ℕ
request_text s = node_text (Worker s.worker) ++ 46 ∷ decimal s.number

-- the request, the operation and the answer, with spaces between them
abbrev pub service_text : Service → List ℕ
service_text s = request_text s ++ 32 ∷ op_text s.op ++ 32 ∷ answer_text s.answer
