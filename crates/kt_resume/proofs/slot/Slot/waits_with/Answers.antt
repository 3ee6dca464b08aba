use Rattle.std.proofs.Common.{◌∙◌, ap, sym}
use Rattle.kt_logs.specs.ShardLog.{request_of}
use Rattle.kt_resume.specs.Remade.{Slot}
use Rattle.kt_resume.proofs.Requests.{waits_is}
use Rattle.kt_resume.proofs.slot.Slot.waits_with.Goals as goal

pub returns-in-Some : goal.returns-in-Some
returns-in-Some c =
    let waits = sym (ap (λ (s : Slot). s.session.waiting) c.self.view_is) ∙ c.in-Some.is in
    waits_is c.args.self.now.session.waiting c.in-Some.request (request_of c.args.act.now) c.is_of.result waits c.is_of.ensures
