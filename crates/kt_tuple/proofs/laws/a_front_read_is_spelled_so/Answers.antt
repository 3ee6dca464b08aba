use Rattle.kt_tuple.proofs.ValueLaws.{value_read_front, value_read_spelled, value_read_made, value_in_range}
use Rattle.kt_tuple.proofs.PlaceLaws.{place_read_front, place_read_spelled, place_read_made, place_in_range}
use Rattle.kt_tuple.proofs.laws.a_front_read_is_spelled_so.Goals as goal

pub returns : goal.returns
returns c = record {
  value_front = value_read_front;
  value_spelling = value_read_spelled;
  value_made = value_read_made;
  value_held = value_in_range;
  place_front = place_read_front;
  place_spelling = place_read_spelled;
  place_made = place_read_made;
  place_held = place_in_range;
}
