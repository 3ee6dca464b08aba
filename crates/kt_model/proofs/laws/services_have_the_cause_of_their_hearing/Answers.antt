use Rattle.kt_model.proofs.Lasting.{services-reached}
use Rattle.kt_model.proofs.laws.services_have_the_cause_of_their_hearing.Goals as goal

pub returns : goal.returns
returns c = record { services = services-reached }
