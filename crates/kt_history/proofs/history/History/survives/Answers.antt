use Rattle.std.proofs.Common.{◌-◌, ◌≤◌, ◌<◌, length, sym, ap, ◌∙◌, ◌↔◌, IsTrue, arith, subst, List}
use Rattle.std.proofs.lemmas.Bool.{leb-true, leb-false, false≢true}
use Rattle.std.proofs.lemmas.List.{get_or_default}
use Rattle.kt_history.specs.declared.mark.Mark.{Mark}
use Rattle.kt_history.specs.declared.note.Note.{Note}
use Rattle.kt_history.specs.Survival.{Survives}
use Rattle.kt_history.specs.auxiliary.Marks.{no_mark}
use Rattle.kt_history.proofs.Room.{shown_notes}
use Rattle.kt_history.proofs.Keeping.{survives-answer, survives-none}
use Rattle.kt_history.proofs.history.History.survives.Goals as goal
use Rattle.kt_history.proofs.history.History.survives.Goals.{then-number-ge1, else-number-ge1}

pub returns-then-number-len : goal.returns-then-number-len
returns-then-number-len c =
    let within : (1 ≤ c.args.number) × (c.args.number ≤ length c.self.inside.marks.items) = elim c.if-number-ge1.branch [
      | then-number-ge1 w ↦ (
        omega (arith, w.if-number-ge1.true),
        omega (
          arith,
          leb-true c.args.number w.len.result (sym w.value-is
              ∙ c.if-number-len.true),
          w.len.ensures,
          c.self.inside.marks.ok.0,
        ),
      )
      | else-number-ge1 w ↦
          absurd (omega (arith, w.if-number-ge1.false, leb-true 1 c.args.number (sym w.value-is ∙ c.if-number-len.true)))
    ] in
    let here : c.args.number - 1 < length c.self.inside.marks.items = omega (arith, within) in
    let mark = c.index.ensures ∙ get_or_default c.self.inside.marks.items (c.args.number - 1) c.index.result.now no_mark here in
    let P : List Note → Type 0 = λ h. IsTrue c.index.result.now.survives ↔ Survives h c.args.number in
    subst P (shown_notes c.self.view_is) (survives-answer _ _ _ _ c.self.invariant c.args.number c.index.result.now.survives within.0
    (omega (arith, within.1, c.self.invariant.lengths)) (ap (λ (m : Mark). m.survives) mark))

pub returns-else-number-len : goal.returns-else-number-len
returns-else-number-len c =
    let out : (1 ≤ c.args.number) × (c.args.number ≤ length c.self.inside.notes.items) → ⊥ = λ within. elim c.if-number-ge1.branch [
      | then-number-ge1 w ↦
          omega (
            arith,
            leb-false c.args.number w.len.result (sym w.value-is
                ∙ c.if-number-len.false),
            w.len.ensures,
            c.self.inside.marks.ok.0,
            c.self.invariant.lengths,
            within.1,
          )
      | else-number-ge1 w ↦ omega (arith, w.if-number-ge1.false, within.0)
    ] in
    let P : List Note → Type 0 = λ h. Survives h c.args.number → ⊥ in
    let none = subst P (shown_notes c.self.view_is) (survives-none _ _ _ _ c.self.invariant c.args.number out) in
    (λ t. absurd (false≢true (sym c.if-number-len.false ∙ t)), λ s. absurd (none s))
