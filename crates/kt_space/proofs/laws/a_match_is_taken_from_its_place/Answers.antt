use Rattle.kt_space.proofs.Taken.{takes_out, match_contained, match_permutes}
use Rattle.kt_space.proofs.laws.a_match_is_taken_from_its_place.Goals as goal

pub returns : goal.returns
returns c = record {
  matches = λ t k tuples u e. (takes_out t k tuples u e).fits;
  contained = match_contained;
  place = takes_out;
  others = match_permutes;
}
