use Rattle.kt_logs.specs.ShardLog.{request_of}
use Rattle.kt_resume.proofs.Requests.{again_none, again_some}
use Rattle.kt_resume.proofs.slot.Slot.answers_again.Goals as goal

pub returns-in-Some : goal.returns-in-Some
returns-in-Some c =
    again_some c.args.self.now.session (request_of c.args.act.now) c.in-Some.cached.now c.args.answer.now c.eq.result c.in-Some.ensures c.eq.ensures

pub returns-in-None : goal.returns-in-None
returns-in-None c = again_none c.args.self.now.session (request_of c.args.act.now) c.args.answer.now c.in-None.ensures
