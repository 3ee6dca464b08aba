use Rattle.std.proofs.Common.{◌++◌, ◌∷◌, []}
use Rattle.std.proofs.lemmas.List.Sorted.{IsPermutation-sym, IsPermutation-to_front}
use Rattle.kt_history.proofs.space.add.Goals as goal

pub returns : goal.returns
returns c =
    let old = c.args.bag.now.tuples in
    let u = c.args.tuple.now in
    rw c.in_ok-put.ensures.put (rw c.in_ok-copy.ensures (IsPermutation-sym (old ++ u ∷ []) (u ∷ old) (IsPermutation-to_front old u)))
