use Rattle.std.proofs.Common.{◌<◌, ◌+◌, Some, length, refl, sym, subst, ◌∙◌, arith, rules}
use Rattle.kt_space.specs.auxiliary.Slots.{IsPassed}
use Rattle.kt_space.proofs.Searched.{to_come, started, passed_match, passed_other, counted_here, counts_slots, falls}
use Rattle.kt_space.proofs.search.among.Goals as goal
use Rattle.kt_space.proofs.search.among.Goals.{then-fits+else-left-eq0, else-fits}

pub loop-next-init : goal.loop-next-init
loop-next-init c =
    started c.args.slots.now c.args.groups.now.keys c.args.key.now c.args.template.now c.requires c.args.number c.first-next.result c.first-next.ensures

pub prove-unreachable-requires : goal.prove-unreachable-requires
prove-unreachable-requires c =
    let h = subst (λ n. IsPassed c.args.slots.now c.args.groups.now.keys c.args.key.now c.args.template.now c.args.number n c.loop-next.left
    c.loop-next.compared) c.in-Some.is c.loop-next.invariant in
    let few = counts_slots c.args.slots.now c.args.groups.now.keys c.args.key.now c.args.template.now c.requires c.args.number c.in-Some.place
    c.loop-next.left c.loop-next.compared h in
    omega (arith, few, c.if-prove.true)

pub returns-then-left-eq0-clause-counted : goal.returns-then-left-eq0-clause-counted
returns-then-left-eq0-clause-counted c =
    counted_here c.args.slots.now c.args.groups.now.keys c.args.key.now c.args.template.now c.requires c.args.number c.in-Some.place c.loop-next.left
    c.loop-next.compared _ (search rules)
    (subst (λ n. IsPassed c.args.slots.now c.args.groups.now.keys c.args.key.now c.args.template.now c.args.number n c.loop-next.left c.loop-next.compared)
    c.in-Some.is c.loop-next.invariant)

pub loop-next-smaller : goal.loop-next-smaller
loop-next-smaller c =
    let h = subst (λ n. IsPassed c.args.slots.now c.args.groups.now.keys c.args.key.now c.args.template.now c.args.number n c.loop-next.left
    c.loop-next.compared) c.in-Some.is c.loop-next.invariant in
    let lt : to_come (length c.args.slots.now) c.next-next.result < to_come (length c.args.slots.now) (Some c.in-Some.place) =
    falls c.args.slots.now c.args.groups.now.keys c.args.key.now c.args.template.now c.requires c.in-Some.place c.next-next.result (c.next-next.ensures
    c.args.key.now h.stands) in
    subst (λ n. to_come (length c.args.slots.now) c.next-next.result < to_come (length c.args.slots.now) n) (sym c.in-Some.is) lt

pub loop-next-preserved : goal.loop-next-preserved
loop-next-preserved c =
    let h = subst (λ n. IsPassed c.args.slots.now c.args.groups.now.keys c.args.key.now c.args.template.now c.args.number n c.loop-next.left
    c.loop-next.compared) c.in-Some.is c.loop-next.invariant in
    let x = c.next-next.ensures c.args.key.now h.stands in
    elim c.if-fits.branch [
      | then-fits+else-left-eq0 w ↦
          subst (λ n. IsPassed c.args.slots.now c.args.groups.now.keys c.args.key.now c.args.template.now c.args.number c.next-next.result n
          (c.loop-next.compared + 1)) (sym w.left-is)
          (passed_match c.args.slots.now c.args.groups.now.keys c.args.key.now c.args.template.now c.requires c.args.number c.in-Some.place c.loop-next.left
          c.loop-next.compared (c.loop-next.compared + 1) c.next-next.result refl h x (sym c.fits.ensures ∙ w.if-fits.true)
          (λ e. omega (arith, w.if-left-eq0.false, e)))
      | else-fits w ↦
          subst (λ n. IsPassed c.args.slots.now c.args.groups.now.keys c.args.key.now c.args.template.now c.args.number c.next-next.result n
          (c.loop-next.compared + 1)) (sym w.left-is)
          (passed_other c.args.slots.now c.args.groups.now.keys c.args.key.now c.args.template.now c.requires c.args.number c.in-Some.place c.loop-next.left
          c.loop-next.compared (c.loop-next.compared + 1) c.next-next.result refl h x (sym c.fits.ensures ∙ w.if-fits.false))
    ]
