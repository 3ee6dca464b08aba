-- What a run leaves that reads from memory and writes to memory.
-- Cited by Behind, InMemory, memory.rt, specs/Chaos, specs/Runs.
use Rattle.kt_scene.specs.declared.fault.ReplayFault.TheVariants as faults
use Rattle.kt_run.specs.declared.fault.RunTextFault.{RunTextFault}
use Rattle.kt_run.specs.declared.fault.RunTextFault.TheVariants.{Text}

-- the fault as it is told: a writer that fails wants memory
abbrev pub told_of : RunTextFault → RunTextFault
told_of (Text faults.Write) = Text faults.Memory
told_of fault = fault
