use Rattle.std.proofs.Common.{◌≡◌, ◌++◌, map, reverse}
use Rattle.kt_ckpt.proofs.chain.Acts.listed.Given as goal

abbrev pub invariant-loop-acts : goal.invariant-loop-acts
invariant-loop-acts l = l.acts ++ reverse (map (λ a. a.now) l.listed.items) ≡ l.self
