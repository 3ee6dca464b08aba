use Rattle.std.proofs.Common.{◌≡◌, take}
use Rattle.kt_history.specs.Survival.{survives, services_of, marked_acts}
use Rattle.kt_history.proofs.history.History.survivors.Given as goal

abbrev pub invariant-loop-place : goal.invariant-loop-place
invariant-loop-place l = l.services.items ≡ services_of (marked_acts (survives l.self.notes) (take l.place l.self-inside.notes.items))
