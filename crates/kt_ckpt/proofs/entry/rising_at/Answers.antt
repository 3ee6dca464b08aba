use Rattle.std.proofs.lemmas.Result.{err_from_is_err_and}
use Rattle.kt_ckpt.specs.Reading.{rising_at}
use Rattle.kt_ckpt.proofs.Loop.{rising_goes_on, rising_ends, rising_ends_behind, rising_done}
use Rattle.kt_ckpt.proofs.Primitive.{rising_of}
use Rattle.kt_ckpt.proofs.entry.rising_at.Goals as goal

pub returns-in_err-worker-clause-value : goal.returns-in_err-worker-clause-value
returns-in_err-worker-clause-value g c =
    let p = err_from_is_err_and c.from_residual.result c.from_residual.ensures.1 in
    rw (p.1, p.2) (rising_ends g.E.Entry.reader c.in_err-worker.field-0.0 c.loop.entries.items c.loop.least c.args.count c.loop.counter c.loop.rest.now
    (rising_at g.E.Entry.reader 1 c.args.count c.args.bytes.now) c.loop-test.true c.in_err-worker.ensures.value c.loop.invariant)

pub returns-in_err-entry-clause-value : goal.returns-in_err-entry-clause-value
returns-in_err-entry-clause-value g c =
    let p = err_from_is_err_and c.from_residual-in_err-entry.result c.from_residual-in_err-entry.ensures.1 in
    rw (p.1, p.2) (rising_ends_behind g.E.Entry.reader c.in_err-entry.field-0.0 c.loop.entries.items c.loop.least c.args.count c.loop.counter c.loop.rest.now
    c.in_ok-worker.worker c.in_ok-worker.behind.now (rising_at g.E.Entry.reader 1 c.args.count c.args.bytes.now) c.loop-test.true c.in_ok-worker.ensures.value
    c.in_err-entry.ensures c.loop.invariant)

pub loop-preserved : goal.loop-preserved
loop-preserved g c =
    rw c.in_ok-push.ensures.items (rising_goes_on g.E.Entry.reader c.loop.entries.items c.loop.least c.args.count c.loop.counter c.loop.rest.now
    c.in_ok-worker.worker c.in_ok-worker.behind.now c.in_ok-entry.entry c.in_ok-entry.after.now
    (rising_at g.E.Entry.reader 1 c.args.count c.args.bytes.now) c.loop-test.true c.in_ok-worker.ensures.value c.in_ok-entry.ensures c.loop.invariant)

pub returns-clause-value : goal.returns-clause-value
returns-clause-value g c = rising_done g.E.Entry.reader c.loop.entries.items c.loop.least c.args.count c.loop.counter c.loop.rest.now
    (rising_at g.E.Entry.reader 1 c.args.count c.args.bytes.now) c.loop-test.false c.loop.invariant

pub returns-clause-rising : goal.returns-clause-rising
returns-clause-rising g c =
    rising_of g.E.Entry.reader 1 c.args.count c.args.bytes.now c.loop.entries.items c.loop.rest.now
    (rising_done g.E.Entry.reader c.loop.entries.items c.loop.least c.args.count c.loop.counter c.loop.rest.now
    (rising_at g.E.Entry.reader 1 c.args.count c.args.bytes.now) c.loop-test.false c.loop.invariant)
