use Rattle.std.proofs.Common.{◌≡◌, ◌∙◌, ◌<◌, ◌≤◌, ℕ, length, ap, refl, sym, subst, arith}
use Rattle.std.proofs.lemmas.Bool.{false≢true}
use Rattle.kt_shard.specs.Table.{at}
use Rattle.kt_resume.specs.Remade.{Slot, empty_slot}
use Rattle.kt_resume.proofs.Remakes.{slot_at}
use Rattle.kt_resume.proofs.Suited.{empty-all, empty-more}
use Rattle.kt_resume.proofs.suits.are_empty_outside.Goals as goal

pub returns-then-not-is_allowed : goal.returns-then-not-is_allowed
returns-then-not-is_allowed c =
    let slots = c.args.slots.now in
    let n = c.loop-number.number in
    let slot = c.index-slots-number.result in
    let found : slot ≡ at empty_slot slots n = slot_at slots n slot c.loop-number-test.true c.index-slots-number.is in (
      λ h. absurd (false≢true h),
      λ all. absurd (false≢true (sym c.if-not-is_allowed.true
          ∙ c.is_allowed.ensures.1 (λ out. ap (λ (s : Slot). s.session) found ∙ all n out))),
    )

pub loop-number-preserved : goal.loop-number-preserved
loop-number-preserved c =
    empty-more c.args.workers c.args.slots.now c.loop-number.number c.index-slots-number.result c.loop-number.invariant c.loop-number-test.true
    c.index-slots-number.is (c.is_allowed.ensures.0 c.if-not-is_allowed.false)

pub returns : goal.returns
returns c =
    let past = c.loop-number-test.false in
    let all = empty-all c.args.workers c.args.slots.now c.loop-number.number c.loop-number.invariant (omega (arith, past)) in
    (λ h. all, λ e. refl)
