use Rattle.std.proofs.Common.{sym, ◌∙◌}
use Rattle.kt_tuple.specs.Node.{all_workers}
use Rattle.kt_stage.proofs.Nobody.{nobody_served}
use Rattle.kt_stage.proofs.serving.serves.Goals as goal

pub returns-in_err-server : goal.returns-in_err-server
returns-in_err-server g c =
    c.from_residual.ensures
    ∙ sym (nobody_served c.args.world.now.state c.args.node _ c.shard.result all_workers c.shard.ensures c.in_err-server.was)
