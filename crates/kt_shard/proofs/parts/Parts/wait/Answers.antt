use Rattle.kt_shard.specs.auxiliary.Sharing.{state_in}
use Rattle.std.proofs.Common.{refl}
use Rattle.kt_shard.proofs.Written.{wait_written}
use Rattle.kt_shard.proofs.parts.Parts.wait.Goals as goal

pub returns-clause-state : goal.returns-clause-state
returns-clause-state c =
    wait_written (state_in c.args.self.now) (state_in c.args.self.now) c.from.result c.args.worker c.index_mut.result.now c.wait.new.self c.args.request
    refl c.from.ensures c.requires.long c.requires.session c.index_mut.ensures.value c.wait.ensures
