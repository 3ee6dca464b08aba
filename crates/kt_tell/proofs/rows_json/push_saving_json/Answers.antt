use Rattle.kt_tell.proofs.rows_json.push_saving_json.Goals as goal

pub returns-in-GivenUp : goal.returns-in-GivenUp
returns-in-GivenUp c = rw c.in-GivenUp.is c.push_saved-in-GivenUp.ensures
