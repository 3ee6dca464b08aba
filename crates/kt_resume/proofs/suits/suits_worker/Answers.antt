use Rattle.kt_resume.proofs.Suited.{worker_suits}
use Rattle.kt_resume.proofs.suits.suits_worker.Goals as goal

pub returns-clause-like : goal.returns-clause-like
returns-clause-like c = λ script made like.
    let suits = worker_suits script made c.args.worker.now c.args.stored.now like in
    (λ h. suits.0 (c.is_stored_as.ensures.0 h), λ s. c.is_stored_as.ensures.1 (suits.1 s))
