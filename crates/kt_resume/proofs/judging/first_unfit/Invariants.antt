use Rattle.std.proofs.Common.{take}
use Rattle.std.specs.Prelude.{All}
use Rattle.kt_resume.specs.Found.{scene_of, content_of}
use Rattle.kt_resume.specs.Judging.{IsGood}
use Rattle.kt_resume.proofs.judging.first_unfit.Given as goal

-- all that were looked at fit
abbrev pub invariant-loop-held : goal.invariant-loop-held
invariant-loop-held l = All (IsGood (scene_of l.shards l.scripts) (content_of l.found)) (take l.held-index l.found)
