-- The fault of a world that did not begin.
-- Cited by fault.rt; other crates.
use Rattle.kt_core.specs.declared.start.StartError.{StartError}
use Rattle.kt_core.specs.declared.start.StartError.TheVariants as unbegun
use Rattle.kt_scene.specs.declared.fault.ReplayFault.{ReplayFault}
use Rattle.kt_scene.specs.declared.fault.ReplayFault.TheVariants as faults

abbrev pub fault_of : StartError → ReplayFault
fault_of (unbegun.Open cause) = faults.Open cause
fault_of (unbegun.Resume cause) = faults.Resume cause
