use Rattle.std.proofs.Common.{refl}
use Rattle.kt_store.proofs.OtherNodes.{others_stay_of}
use Rattle.kt_store.proofs.OtherInstances.{nodes_stay}
use Rattle.kt_store.proofs.laws.other_nodes_stay.Goals as goal

pub returns : goal.returns
returns c = record {
  check_begun = λ p ckpt c. others_stay_of p _ c refl;
  tentative_put = λ p i ckpt c. others_stay_of p _ c refl;
  promoted = λ p c. others_stay_of p _ c refl;
  discarded = λ p c. others_stay_of p _ c refl;
  restart_begun = λ p c. others_stay_of p _ c refl;
  bumped = λ p c. others_stay_of p _ c refl;
  decided = nodes_stay;
}
