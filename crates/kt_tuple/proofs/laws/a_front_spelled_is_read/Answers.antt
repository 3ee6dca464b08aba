use Rattle.kt_tuple.proofs.ValuesRead.{value_at_text, value_of_text, has_range_text, is_short_text}
use Rattle.kt_tuple.proofs.PlacesRead.{place_at_text, place_of_text, has_range_place, is_short_place}
use Rattle.kt_tuple.proofs.laws.a_front_spelled_is_read.Goals as goal

pub returns : goal.returns
returns c = record {
  value_front = value_at_text;
  value_made = value_of_text;
  value_in_range = has_range_text;
  value_short = is_short_text;
  place_front = place_at_text;
  place_made = place_of_text;
  place_in_range = has_range_place;
  place_short = is_short_place;
}
