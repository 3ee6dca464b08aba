use Rattle.kt_tuple.specs.Grammar.{IsValueText, IsPlaceText}
use Rattle.kt_tuple.specs.Reading.{value_at, place_at}
use Rattle.kt_tuple.proofs.PlaceShapes.{values_shape, places_shape}
use Rattle.kt_tuple.proofs.TextShapes.{shape_no_syntax, no_syntax_shape, one_row, syntax_within, syntax_begins, syntax_longest}
use Rattle.kt_tuple.proofs.Only.{syntax_only}
use Rattle.kt_tuple.proofs.laws.a_syntax_fault_is_at_the_longest_front.Goals as goal

pub returns : goal.returns
returns c = record {
  tuple_shape = shape_no_syntax value_at IsValueText values_shape;
  tuple_others = no_syntax_shape value_at IsValueText values_shape;
  tuple_places = one_row value_at IsValueText values_shape;
  tuple_within = syntax_within value_at IsValueText values_shape;
  tuple_begins = syntax_begins value_at IsValueText values_shape;
  tuple_longest = syntax_longest value_at IsValueText values_shape;
  tuple_only = syntax_only value_at IsValueText values_shape;
  template_shape = shape_no_syntax place_at IsPlaceText places_shape;
  template_others = no_syntax_shape place_at IsPlaceText places_shape;
  template_places = one_row place_at IsPlaceText places_shape;
  template_within = syntax_within place_at IsPlaceText places_shape;
  template_begins = syntax_begins place_at IsPlaceText places_shape;
  template_longest = syntax_longest place_at IsPlaceText places_shape;
  template_only = syntax_only place_at IsPlaceText places_shape;
}
