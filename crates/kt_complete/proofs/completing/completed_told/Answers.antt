use Rattle.std.proofs.Common.{refl}
use Rattle.kt_complete.specs.auxiliary.Going.{of_replay}
use Rattle.kt_complete.proofs.Stops.{told_steps}
use Rattle.kt_complete.proofs.completing.completed_told.Goals as goal

pub begin_and_complete-requires : goal.begin_and_complete-requires
begin_and_complete-requires g c = told_steps c.args.text.now _ _ _ c.in-Ok.ensures.kind c.steps_in-steps.ensures c.in-Ok.ensures.spelled

pub returns-in-Err-clause-fault : goal.returns-in-Err-clause-fault
returns-in-Err-clause-fault g c = of_replay (c.in-Err.ensures.explained, refl)
