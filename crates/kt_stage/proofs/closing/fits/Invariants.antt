use Rattle.std.proofs.Common.{◌≡◌, ◌++◌, take}
use Rattle.kt_stage.specs.Journal.{receipts_of}
use Rattle.kt_stage.proofs.closing.fits.Given as goal

-- what was passed over is what the node keeps of the steps so far
abbrev pub invariant-loop-before : goal.invariant-loop-before
invariant-loop-before l = l.receipts ≡ receipts_of l.node 1 (take l.before l.steps) ++ l.rest
