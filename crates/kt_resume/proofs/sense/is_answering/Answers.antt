use Rattle.std.proofs.Common.{sym, ◌∙◌, inl, inr, subst}
use Rattle.std.specs.Prelude.{IsTrue}
use Rattle.kt_history.specs.declared.note.What.{What}
use Rattle.kt_history.specs.WellFormed.{IsAnswering}
use Rattle.kt_tuple.specs.Op.{answer_eq_decides}
use Rattle.kt_resume.proofs.sense.is_answering.Goals as goal

pub returns-in-Served : goal.returns-in-Served
returns-in-Served c =
    let decides = answer_eq_decides c.in-Served.given c.args.answer.now in
    let P : What → Type 0 = λ what.
    (IsTrue c.eq.result → IsAnswering what c.args.answer.now) × (IsAnswering what c.args.answer.now → IsTrue c.eq.result) in
    elim c.in-Served.is [
      | inl is ↦ subst P (sym is) (λ t. decides.0 (sym c.eq.ensures ∙ t), λ e. c.eq.ensures ∙ decides.1 e)
      | inr is ↦ subst P (sym is) (λ t. decides.0 (sym c.eq.ensures ∙ t), λ e. c.eq.ensures ∙ decides.1 e)
    ]
