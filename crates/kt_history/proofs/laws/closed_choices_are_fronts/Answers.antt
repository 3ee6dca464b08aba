use Rattle.kt_history.proofs.Fronts.{marked_front}
use Rattle.kt_history.proofs.laws.closed_choices_are_fronts.Goals as goal

pub returns : goal.returns
returns c = λ h marks closed p.
    let m = marked_front h marks closed p in
    (m.is_front, m.acts)
