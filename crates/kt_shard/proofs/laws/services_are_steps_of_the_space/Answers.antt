use Rattle.kt_shard.proofs.Steps.{service-due, service-step}
use Rattle.kt_shard.proofs.Written.{service-is}
use Rattle.kt_shard.proofs.laws.services_are_steps_of_the_space.Goals as goal

pub returns : goal.returns
returns c = record {
  waited = λ y worker place s e. (service-due y worker place s e).waited;
  step = service-step;
  served = service-is;
}
