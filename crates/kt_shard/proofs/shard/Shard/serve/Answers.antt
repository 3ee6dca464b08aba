use Rattle.kt_shard.specs.Views.{choice_view}
use Rattle.kt_shard.proofs.Written.{serve_done}
use Rattle.kt_shard.proofs.shard.Shard.serve.Goals as goal

pub returns-clause-step : goal.returns-clause-step
returns-clause-step c =
    serve_done c.args.self.now.state c.reserve.new.self.state c.carry_out.new.self.state c.args.worker c.args.place
    (choice_view c.in_ok-choose.field-0) c.in_ok-prepared.prepared
    c.in_ok-choose.ensures.service c.in_ok-prepared.ensures c.reserve.ensures.state c.carry_out.ensures
