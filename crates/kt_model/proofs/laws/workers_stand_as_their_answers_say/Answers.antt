use Rattle.kt_model.proofs.Lasting.{workers-reached}
use Rattle.kt_model.proofs.laws.workers_stand_as_their_answers_say.Goals as goal

pub returns : goal.returns
returns c = record { workers = workers-reached }
