use Rattle.std.proofs.Common.{◌≡◌, Some}
use Rattle.kt_model.specs.Placing.{number_of}
use Rattle.kt_resume.proofs.Turned.{number-act}
use Rattle.kt_resume.proofs.placing.place.Goals as goal
use Rattle.kt_resume.proofs.placing.place.Goals.{in-Some, in-None}

pub add-requires-clause-follows : goal.add-requires-clause-follows
add-requires-clause-follows c = elim c.match-next.branch [
  | in-Some w ↦ number-act c.make_room.new.self.notes w.in-Some.act.now.by c.in-Some-Some.by (cc (w.number_of-by.ensures, w.by-is, c.in-Some-Some.is-0))
  | in-None w ↦ absurd (cc (w.by-is, c.in-Some-Some.is-0))
]
