use Rattle.std.proofs.Common.{refl}
use Rattle.kt_store.specs.declared.rows.Purpose.TheVariants as purposes
use Rattle.kt_store.proofs.OtherInstances.{others_begun, others_decided}
use Rattle.kt_store.proofs.laws.other_instances_stay.Goals as goal

pub returns : goal.returns
returns c = record {
  check_begun = λ p ckpt c. others_begun p purposes.Check c;
  restart_begun = λ p c. others_begun p purposes.Rollback c;
  decided = others_decided;
  tentative_put = λ p i ckpt c. refl;
  promoted = λ p c. refl;
  discarded = λ p c. refl;
  bumped = λ p c. refl;
}
