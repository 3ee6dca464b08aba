use Rattle.std.proofs.Common.{◌≡◌, ◌++◌}
use Rattle.kt_ckpt.proofs.chain.push_newest_first.Given as goal

abbrev pub invariant-loop-act : goal.invariant-loop-act
invariant-loop-act l = l.listed.items ≡ l.fn.listed.items ++ l.yielded
