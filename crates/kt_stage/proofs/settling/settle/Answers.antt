use Rattle.std.proofs.Common.{rules, [], ◌∷◌, ◌++◌, Option, None, Some, refl, sym, subst, ◌∙◌}
use Rattle.std.specs.Prelude.{IfSome, IsTrue}
use Rattle.kt_scenario.specs.declared.step.Step.{Step}
use Rattle.kt_model.specs.State.{State}
use Rattle.kt_core.specs.Lent.{is_allowed}
use Rattle.kt_stage.proofs.Settled.{asked-cause, asked_counted, asked_next, fewer_left, held_at, not_over, refused_counted, settles_more, settles_none}
use Rattle.kt_stage.proofs.Settled.{settles_stays, step-cause}
use Rattle.kt_stage.proofs.settling.settle.Goals as goal

pub loop-step-init : goal.loop-step-init
loop-step-init g c = record {
  settles = ([], settles_none c.args.world.now c.args.faults.now);
  lasts = λ never h. h;
  counts = refl;
}

pub returns-in_err-step-clause-settles : goal.returns-in_err-step-clause-settles
returns-in_err-step-clause-settles g c =
    let so_far = c.loop-step.invariant.settles in
    let asked = c.next_among.ensures.next in (
      so_far.0,
      settles_stays c.args.world.now c.loop-step.world c.next_among.new.world c.args.faults.now c.loop-step.faults so_far.0 so_far.1 asked.same
          asked.beside asked.honest,
    )

pub returns-in_err-step-clause-lasts : goal.returns-in_err-step-clause-lasts
returns-in_err-step-clause-lasts g c = λ never h. c.next_among.ensures.next.lasts never (c.loop-step.invariant.lasts never h)

pub returns-in_err-step-clause-over : goal.returns-in_err-step-clause-over
returns-in_err-step-clause-over g c = λ h. not_over c.from_residual.result _ _ c.from_residual.ensures.1

pub returns-in_err-step-clause-counts : goal.returns-in_err-step-clause-counts
returns-in_err-step-clause-counts g c =
    asked_counted c.from_residual.result c.in_err-step.field-0.0 c.args.world.now.counts c.loop-step.world.counts c.next_among.new.world.counts
    c.from_residual.ensures.1 c.in_err-step.ensures.next.counts c.loop-step.invariant.counts

pub returns-in_err-step-2-clause-settles : goal.returns-in_err-step-2-clause-settles
returns-in_err-step-2-clause-settles g c =
    let so_far = c.loop-step.invariant.settles in
    let asked = c.next_among.ensures.next in
    let before =
    settles_stays c.args.world.now c.loop-step.world c.next_among.new.world c.args.faults.now c.loop-step.faults so_far.0 so_far.1 asked.same
    asked.beside asked.honest in (
      so_far.0,
      settles_stays c.args.world.now c.next_among.new.world c.step.new.self c.args.faults.now c.loop-step.faults so_far.0 before
          c.in_err-step-2.ensures.same c.in_err-step-2.ensures.beside c.step.ensures.honest,
    )

pub returns-in_err-step-2-clause-lasts : goal.returns-in_err-step-2-clause-lasts
returns-in_err-step-2-clause-lasts g c = λ never h.
    c.step.ensures.lasts never (c.next_among.ensures.next.lasts never (c.loop-step.invariant.lasts never h))

pub returns-in_err-step-2-clause-over : goal.returns-in_err-step-2-clause-over
returns-in_err-step-2-clause-over g c = λ h. not_over c.from_residual-in_err-step-2.result _ _ c.from_residual-in_err-step-2.ensures.1

pub returns-in_err-step-2-clause-held_up : goal.returns-in_err-step-2-clause-held_up
returns-in_err-step-2-clause-held_up g c =
    let asked = c.in_ok-step.ensures.next in
    held_at c.next_among.new.world c.step.new.self c.loop-step.faults c.in-Some.step c.from_residual-in_err-step-2.result c.in_err-step-2.field-0.0
    (asked_next c.loop-step.world c.next_among.new.world c.loop-step.faults c.in_ok-step.field-0 (Some c.in-Some.step) c.in-Some.is asked.value asked.same)
    (λ h. subst (λ (s : State). IsTrue (is_allowed s c.in-Some.step)) (sym (asked.same h))
    (subst (λ (o : Option Step). IfSome o (λ step. IsTrue (is_allowed c.loop-step.world.state step))) c.in-Some.is (c.in_ok-step.ensures.allowed h)))
    c.step.ensures.honest c.in_err-step-2.ensures.same c.in_err-step-2.ensures.refusal c.from_residual-in_err-step-2.ensures.1

pub returns-in_err-step-2-clause-counts : goal.returns-in_err-step-2-clause-counts
returns-in_err-step-2-clause-counts g c =
    refused_counted c.from_residual-in_err-step-2.result c.in_err-step-2.field-0.0 c.args.world.now.counts c.next_among.new.world.counts
    c.step.new.self.counts c.from_residual-in_err-step-2.ensures.1 c.in_err-step-2.ensures.counts
    (c.in_ok-step.ensures.next.counts ∙ c.loop-step.invariant.counts)

pub returns-in_err-step-clause-cause : goal.returns-in_err-step-clause-cause
returns-in_err-step-clause-cause g c =
    asked-cause c.from_residual.result c.next_among.new.world c.in_err-step.field-0.0 c.from_residual.ensures.1 c.in_err-step.ensures.next.cause

pub returns-in_err-step-2-clause-cause : goal.returns-in_err-step-2-clause-cause
returns-in_err-step-2-clause-cause g c =
    step-cause c.from_residual-in_err-step-2.result c.step.new.self c.in-Some.step c.in_err-step-2.field-0.0 c.from_residual-in_err-step-2.ensures.1
    c.in_err-step-2.ensures.cause

pub loop-step-smaller : goal.loop-step-smaller
loop-step-smaller g c =
    fewer_left c.loop-step.world.state c.step.new.self.state c.next_among.new.world.state c.in-Some.step c.in_ok-step-2.ensures.by_plan
    c.in_ok-step-2.ensures.made c.next_among.ensures.next.beside

pub loop-step-preserved : goal.loop-step-preserved
loop-step-preserved g c =
    let so_far = c.loop-step.invariant.settles in
    let asked = c.in_ok-step.ensures.next in
    let before =
    settles_stays c.args.world.now c.loop-step.world c.next_among.new.world c.args.faults.now c.loop-step.faults so_far.0 so_far.1 asked.same
    asked.beside asked.honest in
    record {
      settles = (
        so_far.0 ++ c.in-Some.step ∷ [],
        settles_more c.args.world.now c.next_among.new.world c.step.new.self c.args.faults.now c.loop-step.faults c.spend.new.self so_far.0
            c.in-Some.step before
            (asked_next c.loop-step.world c.next_among.new.world c.loop-step.faults c.in_ok-step.field-0 (Some c.in-Some.step) c.in-Some.is asked.value
            asked.same)
            c.in_ok-step-2.ensures.effect c.step.ensures.honest c.in_ok-step-2.ensures.made c.in_ok-step-2.ensures.scene c.spend.ensures,
      );
      lasts = λ never h. c.step.ensures.lasts never (asked.lasts never (c.loop-step.invariant.lasts never h));
      counts = c.in_ok-step-2.ensures.counts ∙ asked.counts ∙ c.loop-step.invariant.counts;
    }

pub returns-clause-settles : goal.returns-clause-settles
returns-clause-settles g c =
    let so_far = c.loop-step.invariant.settles in
    let asked = c.next_among.ensures.next in (
      so_far.0,
      settles_stays c.args.world.now c.loop-step.world c.next_among.new.world c.args.faults.now c.loop-step.faults so_far.0 so_far.1 asked.same
          asked.beside asked.honest,
    )

pub returns-clause-over : goal.returns-clause-over
returns-clause-over g c =
    asked_next c.loop-step.world c.next_among.new.world c.loop-step.faults c.in_ok-step.field-0 None (search rules)
    c.in_ok-step.ensures.next.value c.in_ok-step.ensures.next.same

pub returns-clause-lasts : goal.returns-clause-lasts
returns-clause-lasts g c = λ never h. c.next_among.ensures.next.lasts never (c.loop-step.invariant.lasts never h)

pub returns-clause-counts : goal.returns-clause-counts
returns-clause-counts g c = c.in_ok-step.ensures.next.counts ∙ c.loop-step.invariant.counts
