use Rattle.std.proofs.Common.{[]}
use Rattle.std.proofs.lemmas.List.Sorted.{IsPermutation-refl}
use Rattle.kt_history.proofs.Runs.{RunsFrom-one}
use Rattle.kt_history.proofs.laws.a_run_has_one_space.Goals as goal

pub returns : goal.returns
returns c = λ services a b r q. RunsFrom-one [] [] services a b (IsPermutation-refl []) r q
