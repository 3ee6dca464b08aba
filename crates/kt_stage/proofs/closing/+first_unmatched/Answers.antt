use Rattle.std.proofs.Common.{rules, ◌≡◌, ◌∷◌, true, false, sym, subst, ◌∙◌}
use Rattle.std.specs.Prelude.{Option, IfSome}
use Rattle.kt_tuple.specs.declared.node.NodeId.{NodeId}
use Rattle.kt_tuple.specs.Node.{is_before}
use Rattle.kt_stage.specs.Closing.{IsMatched}
use Rattle.kt_stage.proofs.Unmatched.{unmatched_here}
use Rattle.kt_stage.proofs.closing.+first_unmatched.Goals.{in_default-via-in-Some+else-is_before, in_default-via-in_default}
use Rattle.kt_stage.proofs.closing.+first_unmatched.Goals as goal

pub returns-in_default : goal.returns-in_default
returns-in_default g t c =
    let split : c.args.some.now ≡ c.in_ok-seat.seat.now ∷ c.in_ok-seat.later.now = search rules in
    let here : c.in_ok-seat.seat.now.node ≡ c.seat.inside.node = search rules in
    let bad : ¬ IsMatched c.args.steps.now c.args.seats.now c.seat.inside.node = λ h.
    absurd (let is = c.is_matched.ensures.1 h in let off : true ≡ false = sym is ∙ c.if-is_matched.false in cc) in
    unmatched_here c.args.steps.now c.args.seats.now c.args.some.now c.in_ok-seat.later.now c.in_ok-seat.seat.now c.seat.inside.node
    c.first_unmatched-first.result split here c.first_unmatched-first.ensures bad
    (elim c.in_default.branch [
      | in_default-via-in-Some+else-is_before w ↦
          subst (λ (o : Option NodeId). IfSome o (λ q. is_before q c.seat.inside.node ≡ false)) (sym w.in-Some.is)
          (sym w.is_before.ensures ∙ w.if-is_before.false)
      | in_default-via-in_default w ↦
          subst (λ (o : Option NodeId). IfSome o (λ q. is_before q c.seat.inside.node ≡ false)) (sym w.in_default.is) tt
    ])
