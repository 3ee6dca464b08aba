use Rattle.std.proofs.Common.{◌≡◌, map, take}
use Rattle.kt_resume.proofs.logs.acts_in.Given as goal

-- a copy of each act that was looked at
abbrev pub invariant-loop-act : goal.invariant-loop-act
invariant-loop-act l = l.acts.items ≡ map (λ a. a.now) (take l.act-index l.act-items)
