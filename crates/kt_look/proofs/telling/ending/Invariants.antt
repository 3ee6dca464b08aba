use Rattle.std.proofs.Common.{◌≡◌, drop}
use Rattle.kt_look.specs.Told.{end_by}
use Rattle.kt_look.proofs.telling.ending.Given as goal

-- how the steps ended that are left
abbrev pub invariant-loop-entry : goal.invariant-loop-entry
invariant-loop-entry l = end_by l.entries ≡ end_by (drop l.entry-index l.entries)
