use Rattle.kt_ckpt.proofs.chain.first_of.Goals as goal

pub invariant_of-result : goal.invariant_of-result
invariant_of-result c = c.in_ok-last.ensures.chain c.args.len c.requires
