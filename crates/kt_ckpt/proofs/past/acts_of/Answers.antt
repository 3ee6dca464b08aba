use Rattle.std.proofs.Common.{sym, ap, refl, ◌∙◌}
use Rattle.std.specs.Option.{option_copied}
use Rattle.kt_ckpt.proofs.TakenLogs.{act_more, none_more}
use Rattle.kt_ckpt.proofs.past.acts_of.Goals as goal
use Rattle.kt_ckpt.proofs.past.acts_of.Goals.{in-Some+in_ok-log_act+in_ok-push, in_default}

pub loop-number-preserved : goal.loop-number-preserved
loop-number-preserved c = elim c.match-act.branch [
  | in-Some+in_ok-log_act+in_ok-push w ↦
      ap (λ v. v.items) w.acts-is ∙ w.in_ok-push.ensures.items
      ∙ act_more _ c.args.numbers.now c.loop-number.number-index _ _ c.loop-number.acts.items _ c.loop-number-test.true refl
      (sym c.act.ensures ∙ ap option_copied w.in-Some.is) c.loop-number.invariant w.in_ok-log_act.ensures
  | in_default w ↦
      ap (λ v. v.items) w.acts-is
      ∙ none_more _ c.args.numbers.now c.loop-number.number-index _ c.loop-number.acts.items c.loop-number-test.true refl
      (sym c.act.ensures ∙ ap option_copied w.in_default.is) c.loop-number.invariant
]
