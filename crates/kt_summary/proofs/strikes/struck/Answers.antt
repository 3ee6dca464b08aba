use Rattle.std.proofs.Common.{◌≡◌, ◌+◌, List, map, length, get_or, ap, refl, sym, subst, ◌∙◌, arith}
use Rattle.std.proofs.lemmas.List.{get_or_default, take_at}
use Rattle.std.specs.declared.vec.Vec.{Vec}
use Rattle.std.specs.declared.alloc.Global.{Global}
use Rattle.kt_tuple.specs.declared.node.NodeId.TheVariants.{Worker}
use Rattle.kt_scenario.specs.declared.step.Step.{Step}
use Rattle.kt_scenario.specs.declared.step.Step.TheVariants.{Issue}
use Rattle.kt_scenario.specs.declared.faults.FaultLine.{FaultLine}
use Rattle.kt_summary.specs.declared.strikes.FaultEnd.{FaultEnd}
use Rattle.kt_summary.specs.auxiliary.Marking.{AreNoted, unstruck}
use Rattle.kt_summary.proofs.Noting.{SoFar, known_end, so_far_none, so_far_noted, so_far_other, spent_length}
use Rattle.kt_summary.proofs.strikes.struck.Goals as goal
use Rattle.kt_summary.proofs.strikes.struck.Goals.{then-is_kind_of_fault, else-is_kind_of_fault}

pub loop-place-init : goal.loop-place-init
loop-place-init c =
    so_far_none c.args.faults.now c.in_ok-left.left c.args.steps.now c.in_ok-found.found.items c.in_ok-left.ensures
    (c.in_ok-found.ensures ∙ ap (λ (ls : List FaultLine). map unstruck ls) c.lines.ensures)

pub note-requires : goal.note-requires
note-requires c =
    ap (λ (ls : List FaultLine). length ls) (c.lines-then-is_kind_of_fault.ensures ∙ c.spend.ensures)
    ∙ spent_length c.loop-place.left _
    ∙ c.loop-place.invariant.lengths
    ∙ sym (ap (λ (xs : List FaultEnd). length xs) c.deref_mut.ensures.value)

pub loop-place-preserved : goal.loop-place-preserved
loop-place-preserved c =
    let lines = c.args.faults.now in
    let steps = c.args.steps.now in
    let place = c.loop-place.place in
    let was = c.loop-place.found.items in
    let step : Step = get_or steps place (Issue (Worker 0)) in
    let at : step ≡ get_or steps place step = get_or_default steps place (Issue (Worker 0)) step c.loop-place-test.true in
    let items : Vec FaultEnd Global → List FaultEnd = λ v. v.items in
    let P : List FaultEnd → Type 0 = λ xs. SoFar lines steps (place + 1) c.spend.new.self xs in
    elim c.if-is_kind_of_fault.branch [
      | then-is_kind_of_fault w ↦
          let new = w.note.new.found in
          let written : length new ≡ c.loop-place.found.len =
          omega (arith, w.note.auto.found, w.deref_mut.ensures.len, c.loop-place.found.ok.0) in
          let Q : List FaultEnd → Type 0 = λ xs. AreNoted w.lines-then-is_kind_of_fault.result.now (place + 1) xs new in
          let R : List FaultLine → Type 0 = λ ls. AreNoted ls (place + 1) was new in
          subst P (sym (ap items w.found-is ∙ take_at new _ _ written))
          (so_far_noted lines c.loop-place.left c.spend.new.self steps place (place + 1) step was new c.loop-place-test.true at refl
          c.spend.ensures c.loop-place.invariant
          (subst R w.lines-then-is_kind_of_fault.ensures (subst Q w.deref_mut.ensures.value w.note.ensures)))
      | else-is_kind_of_fault w ↦
          subst P (sym (ap items w.found-is))
          (so_far_other lines c.loop-place.left c.spend.new.self steps place step was c.loop-place-test.true at c.spend.ensures
          (sym c.is_kind_of_fault.ensures ∙ w.if-is_kind_of_fault.false) c.loop-place.invariant)
    ]

pub returns-clause-each : goal.returns-clause-each
returns-clause-each c = λ place x e.
    known_end c.args.faults.now c.args.steps.now c.loop-place.place place x.by (omega (arith, c.loop-place-test.false))
    (c.loop-place.invariant.each place x e)
