-- Which refusals of a step are for want of memory, over a store in memory.
-- Cited by Making, remaking.rt.
use Rattle.std.specs.Prelude.{Bool, true, false}
use Rattle.kt_model.specs.declared.error.StepError.{StepError}
use Rattle.kt_model.specs.declared.error.StepError.TheVariants as refusals

abbrev pub is_want : StepError → Bool
is_want (refusals.Store refusal) = true
is_want refusals.OutOfMemory = true
is_want refusal = false
