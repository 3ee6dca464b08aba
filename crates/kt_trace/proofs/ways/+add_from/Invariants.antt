use Rattle.std.proofs.Common.{◌-◌, length}
use Rattle.kt_model.specs.State.{link}
use Rattle.kt_trace.proofs.ways.+add_from.Given as goal

abbrev pub decreases-add_from : goal.decreases-add_from
decreases-add_from l = length (link l.world.now.state l.from l.to) - l.place
