use Rattle.std.proofs.lemmas.Result.{err_from_is_err_and}
use Rattle.kt_ckpt.specs.OldState.{old_rising_at}
use Rattle.kt_ckpt.proofs.OldRising.{old_rising_goes_on, old_rising_ends, old_rising_ends_behind, old_rising_done}
use Rattle.kt_ckpt.proofs.OldRising.{old_rising_of}
use Rattle.kt_ckpt.proofs.old_state.old_rising_at.Goals as goal

pub returns-in_err-worker-clause-value : goal.returns-in_err-worker-clause-value
returns-in_err-worker-clause-value g c =
    let p = err_from_is_err_and c.from_residual.result c.from_residual.ensures.1 in
    rw (p.1, p.2) (old_rising_ends g.E.Old.old_reader c.in_err-worker.field-0.0 c.loop.entries.items c.loop.least c.args.count c.loop.counter c.loop.rest.now
    (old_rising_at g.E.Old.old_reader 1 c.args.count c.args.bytes.now) c.loop-test.true c.in_err-worker.ensures.value c.loop.invariant)

pub returns-in_err-entry-clause-value : goal.returns-in_err-entry-clause-value
returns-in_err-entry-clause-value g c =
    let p = err_from_is_err_and c.from_residual-in_err-entry.result c.from_residual-in_err-entry.ensures.1 in
    rw (p.1, p.2) (old_rising_ends_behind g.E.Old.old_reader c.in_err-entry.field-0.0 c.loop.entries.items c.loop.least c.args.count
    c.loop.counter c.loop.rest.now c.in_ok-worker.worker c.in_ok-worker.behind.now
    (old_rising_at g.E.Old.old_reader 1 c.args.count c.args.bytes.now) c.loop-test.true c.in_ok-worker.ensures.value
    c.in_err-entry.ensures c.loop.invariant)

pub loop-preserved : goal.loop-preserved
loop-preserved g c =
    rw c.in_ok-push.ensures.items (old_rising_goes_on g.E.Old.old_reader c.loop.entries.items c.loop.least c.args.count c.loop.counter c.loop.rest.now
    c.in_ok-worker.worker c.in_ok-worker.behind.now c.in_ok-entry.entry c.in_ok-entry.after.now
    (old_rising_at g.E.Old.old_reader 1 c.args.count c.args.bytes.now) c.loop-test.true c.in_ok-worker.ensures.value c.in_ok-entry.ensures c.loop.invariant)

pub returns-clause-value : goal.returns-clause-value
returns-clause-value g c = old_rising_done g.E.Old.old_reader c.loop.entries.items c.loop.least c.args.count c.loop.counter c.loop.rest.now
    (old_rising_at g.E.Old.old_reader 1 c.args.count c.args.bytes.now) c.loop-test.false c.loop.invariant

pub returns-clause-rising : goal.returns-clause-rising
returns-clause-rising g c =
    old_rising_of g.E.Old.old_reader 1 c.args.count c.args.bytes.now c.loop.entries.items c.loop.rest.now
    (old_rising_done g.E.Old.old_reader c.loop.entries.items c.loop.least c.args.count c.loop.counter c.loop.rest.now
    (old_rising_at g.E.Old.old_reader 1 c.args.count c.args.bytes.now) c.loop-test.false c.loop.invariant)
