-- Of `Ckpt::encode` in src/encode.rt.
use Rattle.std.proofs.Common.{rules}
use Rattle.kt_ckpt.proofs.Checkpoints.{is_read_back}
use Rattle.kt_ckpt.proofs.ckpt.Ckpt.encode.Goals as goal

pub returns-clause-read_back : goal.returns-clause-read_back
returns-clause-read_back c = is_read_back c.encode_parts.result c.args.self.now (search rules) (search rules)
