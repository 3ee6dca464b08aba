use Rattle.kt_chaos.specs.Drawing.{stream_from}
use Rattle.kt_chaos.proofs.Draws.{drawn-length, drawn-lines}
use Rattle.kt_chaos.proofs.drawing.push_random_faults.Goals as goal

pub returns-clause-many : goal.returns-clause-many
returns-clause-many c = drawn-length c.args.chaos.count c.args.scene.now (stream_from c.args.chaos.seed)

pub returns-clause-valid : goal.returns-clause-valid
returns-clause-valid c = drawn-lines c.args.chaos.count c.args.scene.now (stream_from c.args.chaos.seed) c.nodes_in-nodes.ensures.some
