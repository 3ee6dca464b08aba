use Rattle.std.proofs.Common.{◌≡◌, length, map, take}
use Rattle.std.specs.Prelude.{All}
use Rattle.kt_model.specs.Cut.{permanent_length}
use Rattle.kt_model.specs.Resumed.{acts_of}
use Rattle.kt_resume.specs.Found.{content_of}
use Rattle.kt_resume.specs.auxiliary.Next.{log_of}
use Rattle.kt_resume.proofs.logs.logs_of.Given as goal

-- a list for each node that was looked at
abbrev pub invariant-loop-node : goal.invariant-loop-node
invariant-loop-node l = record {
  logs : l.logs.items ≡ map (log_of (acts_of (content_of l.found))) (take l.node-index l.nodes);
  long : All (λ p. length (acts_of (content_of l.found) p) ≡ permanent_length (content_of l.found) p) (take l.node-index l.nodes);
}
