use Rattle.kt_resume.proofs.Requests.{request_eq}
use Rattle.kt_resume.proofs.entries.RequestEntry.equals.Goals as goal

pub returns-then-self-other : goal.returns-then-self-other
returns-then-self-other c = request_eq c.args.self.now c.args.other.now c.eq.result c.if-self-other.true c.eq.ensures
