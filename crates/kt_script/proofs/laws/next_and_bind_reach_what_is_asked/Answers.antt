use Rattle.kt_script.proofs.Reaches.{reaches}
use Rattle.kt_script.proofs.laws.next_and_bind_reach_what_is_asked.Goals as goal

pub returns-clause-reached : goal.returns-clause-reached
returns-clause-reached c = reaches
