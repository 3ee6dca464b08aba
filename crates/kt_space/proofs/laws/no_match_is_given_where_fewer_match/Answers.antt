use Rattle.kt_space.specs.Picking.{matching}
use Rattle.std.proofs.lemmas.Option.{slice_get_past}
use Rattle.kt_space.proofs.Picked.{without_none}
use Rattle.kt_space.proofs.Taken.{fewer, nothing_matches}
use Rattle.kt_space.proofs.laws.no_match_is_given_where_fewer_match.Goals as goal

pub returns : goal.returns
returns c = record {
  fewer = λ t k tuples. (fewer t k tuples, slice_get_past (matching t tuples) k);
  all = λ t k tuples e. without_none t tuples k (fewer t k tuples e);
  nothing = nothing_matches;
}
