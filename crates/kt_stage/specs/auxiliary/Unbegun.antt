-- The fault of a run whose world did not begin.
-- Cited by Ended, running.rt.
use Rattle.kt_core.specs.declared.start.StartError.{StartError}
use Rattle.kt_core.specs.declared.start.StartError.TheVariants as unbegun
use Rattle.kt_stage.specs.declared.running.RunFault.{RunFault}
use Rattle.kt_stage.specs.declared.running.RunFault.TheVariants as runs

abbrev pub fault_of : StartError → RunFault
fault_of (unbegun.Open cause) = runs.Open cause
fault_of (unbegun.Resume cause) = runs.Resume cause
