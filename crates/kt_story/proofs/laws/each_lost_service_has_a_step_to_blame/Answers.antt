use Rattle.kt_story.proofs.Covering.{somebody}
use Rattle.kt_story.proofs.laws.each_lost_service_has_a_step_to_blame.Goals as goal

pub returns : goal.returns
returns c = λ scene steps story told causes row serves lost. somebody scene steps story told causes row serves lost
