use Rattle.kt_core.proofs.Traffics.{rooms_kept}
use Rattle.kt_core.proofs.traffic.take_off.Goals as goal

pub returns-in-Deliver-clause-room : goal.returns-in-Deliver-clause-room
returns-in-Deliver-clause-room c = rooms_kept c.args.links.now c.pop.new.self c.in-Deliver.from c.in-Deliver.to c.pop.ensures.alone c.pop.ensures.room
