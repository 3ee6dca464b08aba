use Rattle.kt_core.specs.Store.{store_value}
use Rattle.kt_command.proofs.Statuses.{run_told, status_told}
use Rattle.kt_command.proofs.running.run_returning_store.Goals as goal

pub returns-in-Replay-clause-told : goal.returns-in-Replay-clause-told
returns-in-Replay-clause-told g c =
    let over = c.replay_returning_store-answer in
    let value = store_value g.S.CkptStore in
    rw c.in-Replay.is (status_told c.in-Replay.start (value c.args.store) (value over.result.1) _ _ _ _ over.result.0 c.end_replay.result
    c.end_replay.ensures.status over.ensures.written over.ensures.front over.ensures.fault over.ensures.nothing)

pub returns-in-Run-clause-told : goal.returns-in-Run-clause-told
returns-in-Run-clause-told g c =
    let over = c.run_text_returning_store-answer in
    rw c.in-Run.is (run_told _ _ _ _ _ over.result.0 c.end_run.result c.end_run.ensures.status over.ensures.written over.ensures.front
    over.ensures.fault over.ensures.nothing)

pub returns-in-RunChaos-clause-told : goal.returns-in-RunChaos-clause-told
returns-in-RunChaos-clause-told g c =
    let over = c.run_chaos_returning_store-answer in
    rw c.in-RunChaos.is (run_told _ _ _ _ _ over.result.0 c.end_run-in-RunChaos.result c.end_run-in-RunChaos.ensures.status over.ensures.written
    over.ensures.front over.ensures.fault over.ensures.nothing)
