-- Of `Env::op_of` in src/next.rt.
use Rattle.std.proofs.Common.{sym}
use Rattle.kt_script.proofs.env.Env.op_of.Goals as goal

pub returns : goal.returns
returns c = rw (sym c.values.ensures) c.op_of.ensures
