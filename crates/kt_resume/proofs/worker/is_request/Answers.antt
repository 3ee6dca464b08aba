use Rattle.std.proofs.Common.{sym, ◌∙◌}
use Rattle.kt_tuple.specs.Op.{op_eq_decides}
use Rattle.kt_resume.proofs.worker.is_request.Goals as goal

pub returns-then-number-act : goal.returns-then-number-act
returns-then-number-act c =
    let decides = op_eq_decides c.args.op.now c.args.act.now.op in
    (λ t. (c.if-number-act.true, decides.0 (sym c.eq.ensures ∙ t)), λ both. c.eq.ensures ∙ decides.1 both.1)
