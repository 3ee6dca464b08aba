use Rattle.std.proofs.Common.{[], ◌∷◌, ◌++◌}
use Rattle.std.proofs.lemmas.List.Sorted.{IsPermutation-refl, IsPermutation-sym, IsPermutation-to_front}
use Rattle.kt_space.proofs.Taken.{takes_out, match_contained, match_permutes, nothing_matches}
use Rattle.kt_space.proofs.laws.a_bag_makes_steps_of_the_space.Goals as goal

pub returns : goal.returns
returns c = record {
  put = λ tuples u. IsPermutation-sym (tuples ++ u ∷ []) (u ∷ tuples) (IsPermutation-to_front tuples u);
  taken = λ t k tuples u e. ((takes_out t k tuples u e).fits, match_permutes t k tuples u e);
  taken_at_once = λ t k tuples u e. ((takes_out t k tuples u e).fits, match_permutes t k tuples u e);
  read = λ t k tuples u e. ((takes_out t k tuples u e).fits, match_contained t k tuples u e, IsPermutation-refl tuples);
  read_at_once = λ t k tuples u e. ((takes_out t k tuples u e).fits, match_contained t k tuples u e, IsPermutation-refl tuples);
  none_to_take = λ t tuples e. (nothing_matches t tuples e, IsPermutation-refl tuples);
  none_to_read = λ t tuples e. (nothing_matches t tuples e, IsPermutation-refl tuples);
}
