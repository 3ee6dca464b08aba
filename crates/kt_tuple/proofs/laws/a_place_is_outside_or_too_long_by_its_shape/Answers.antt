use Rattle.kt_tuple.proofs.Outside.{int_range, formal_range, str_short, place_short}
use Rattle.kt_tuple.proofs.laws.a_place_is_outside_or_too_long_by_its_shape.Goals as goal

pub returns : goal.returns
returns c = record { int = int_range; in_range = formal_range; characters = str_short; short = place_short }
