use Rattle.kt_worker.proofs.Fits.{position-after, fits-after}
use Rattle.kt_worker.proofs.laws.parts_of_a_worker_make_it_again.Goals as goal

pub returns-clause-position : goal.returns-clause-position
returns-clause-position c = position-after

pub returns-clause-fits : goal.returns-clause-fits
returns-clause-fits c = fits-after
