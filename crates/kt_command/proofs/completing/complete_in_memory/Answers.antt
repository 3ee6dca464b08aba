use Rattle.kt_command.proofs.Completions.{completed_told}
use Rattle.kt_command.proofs.completing.complete_in_memory.Goals as goal

pub returns-clause-told : goal.returns-clause-told
returns-clause-told g c =
    let over = c.complete_returning_store-answer in
    completed_told c.new-store.result over.result.1 _ _ _ _ over.result.0 c.end_replay.result c.new-store.ensures c.end_replay.ensures.status
    over.ensures.written over.ensures.front over.ensures.fault over.ensures.nothing
