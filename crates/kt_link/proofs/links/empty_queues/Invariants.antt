use Rattle.std.proofs.Common.{◌≡◌, map, replicate, []}
use Rattle.kt_link.proofs.links.empty_queues.Given as goal

abbrev pub invariant-loop-number : goal.invariant-loop-number
invariant-loop-number g l = map (λ q. q.items) l.queues.items ≡ replicate l.number []
