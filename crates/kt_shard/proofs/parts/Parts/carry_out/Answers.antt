use Rattle.std.proofs.Common.{refl}
use Rattle.kt_shard.specs.Service.{Service}
use Rattle.kt_shard.specs.auxiliary.Sharing.{state_in}
use Rattle.kt_shard.proofs.Written.{service_written}
use Rattle.kt_shard.proofs.parts.Parts.carry_out.Goals as goal

pub returns-clause-state : goal.returns-clause-state
returns-clause-state c =
    let p : Service = record { request = c.prepared.inside.request; place = c.prepared.inside.place; answer = c.prepared.inside.answer } in
    service_written (state_in c.args.self.now) (state_in c.args.self.now) p c.args.prepared c.change_bag.new.bag.tuples c.from.result
    c.args.worker c.keep.new.self refl c.prepared.view_is c.from.ensures c.requires.long c.requires.session c.change_bag.ensures c.keep.ensures
