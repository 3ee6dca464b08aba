use Rattle.std.proofs.Common.{sym, ◌∙◌, eqb-true}
use Rattle.kt_tuple.specs.Op.{op_eq_decides}
use Rattle.kt_resume.proofs.sense.are_about_one.Goals as goal
use Rattle.kt_resume.proofs.sense.are_about_one.Goals.{then-other-act, else-other-act}

pub returns-then-other-act-2 : goal.returns-then-other-act-2
returns-then-other-act-2 c =
    let decides = op_eq_decides c.args.other.now.op c.args.act.now.op in
    elim c.if-other-act.branch [
      | then-other-act w ↦
          let number = eqb-true c.args.other.now.number c.args.act.now.number (sym w.value-is ∙ c.if-other-act-2.true) in (
            λ t. record { worker = w.if-other-act.true; number = number; op = decides.0 (sym c.eq.ensures ∙ t) },
            λ same. c.eq.ensures ∙ decides.1 same.op,
          )
      | else-other-act w ↦
          absurd (w.if-other-act.false (eqb-true c.args.other.now.worker c.args.act.now.worker (sym w.value-is ∙ c.if-other-act-2.true)))
    ]
