use Rattle.kt_model.proofs.Shared.{resumed_services}
use Rattle.kt_refinement.proofs.Whole.{closed-reached}
use Rattle.kt_refinement.proofs.laws.a_resumed_world_has_the_permanent_services.Goals as goal

pub returns : goal.returns
returns c = record { services = λ s is. resumed_services s is (closed-reached s is) }
