use Rattle.kt_tuple.proofs.Texts.{tuple_faultless, tuple_remade, template_faultless, template_remade}
use Rattle.kt_tuple.proofs.laws.a_text_spelled_is_read.Goals as goal

pub returns : goal.returns
returns c = record {
  tuple_faultless = tuple_faultless;
  tuple_values = tuple_remade;
  template_faultless = template_faultless;
  template_places = template_remade;
}
