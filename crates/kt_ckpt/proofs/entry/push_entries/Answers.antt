use Rattle.std.proofs.Common.{arith}
use Rattle.kt_ckpt.proofs.States.{few_entries}
use Rattle.kt_ckpt.proofs.entry.push_entries.Goals as goal

pub overflow_cast-entries : goal.overflow_cast-entries
overflow_cast-entries g c = omega (arith, few_entries c.args.entries.now c.requires)
