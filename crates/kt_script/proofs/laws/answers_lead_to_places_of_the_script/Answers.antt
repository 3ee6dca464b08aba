use Rattle.kt_script.proofs.InScript.{in_script-after, in_script-next}
use Rattle.kt_script.proofs.laws.answers_lead_to_places_of_the_script.Goals as goal

pub returns-clause-after : goal.returns-clause-after
returns-clause-after c = in_script-after

pub returns-clause-next : goal.returns-clause-next
returns-clause-next c = in_script-next
