use Rattle.std.proofs.Common.{◌≡◌, take}
use Rattle.kt_ckpt.proofs.chain.Acts.first.Given as goal

abbrev pub invariant-loop-acts : goal.invariant-loop-acts
invariant-loop-acts l = take l.keep l.acts ≡ take l.keep l.self
