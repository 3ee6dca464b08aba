use Rattle.kt_logs.proofs.Shared.{set_counted}
use Rattle.kt_core.proofs.change.count.Goals as goal

pub returns : goal.returns
returns c = set_counted c.args.own.now.items c.args.row c.index_mut.result.now c.requires.row c.index_mut.ensures.value
