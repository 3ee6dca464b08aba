use Rattle.kt_tuple.proofs.Texts.{tuple_spelled, tuple_arity, tuple_held, template_spelled, template_arity, template_held}
use Rattle.kt_tuple.proofs.laws.a_text_read_is_spelled_so.Goals as goal

pub returns : goal.returns
returns c = record {
  tuple_spelling = tuple_spelled;
  tuple_arity = tuple_arity;
  tuple_held = tuple_held;
  template_spelling = template_spelled;
  template_arity = template_arity;
  template_held = template_held;
}
