use Rattle.kt_model.proofs.Lasting.{made-notes}
use Rattle.kt_model.proofs.laws.steps_note_one_thing_at_most.Goals as goal

pub returns : goal.returns
returns c = record { notes = λ s is step new. made-notes s step new is }
