use Rattle.std.proofs.Common.{arith, ◌≤◌}
use Rattle.kt_logs.specs.ShardLog.{request_of}
use Rattle.kt_shard.specs.Session.{newest}
use Rattle.kt_resume.proofs.Requests.{ignored}
use Rattle.kt_resume.proofs.slot.Slot.ignores.Goals as goal

pub returns-then-act-newest : goal.returns-then-act-newest
returns-then-act-newest c =
    let le : c.args.act.now.number ≤ newest c.args.self.now.session = omega (arith, c.if-act-newest.true, c.newest.ensures) in
    ignored c.args.self.now.session (request_of c.args.act.now) c.cached_answer.result c.is_none.result c.cached_answer.ensures c.is_none.ensures le
