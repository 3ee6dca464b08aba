use Rattle.kt_resume.proofs.Requests.{cached_eq}
use Rattle.kt_resume.proofs.entries.CachedReplyEntry.equals.Goals as goal

pub returns-then-equals : goal.returns-then-equals
returns-then-equals c = cached_eq c.args.self.now c.args.other.now c.eq.result (c.equals.ensures.0 c.if-equals.true) c.eq.ensures
