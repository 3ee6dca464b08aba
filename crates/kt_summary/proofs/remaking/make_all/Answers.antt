use Rattle.std.proofs.Common.{◌≡◌, ◌<◌, ◌+◌, ℕ, List, length, get_or, ap, refl, sym, subst, ◌∙◌, arith}
use Rattle.std.proofs.lemmas.List.{get_or_default}
use Rattle.std.specs.declared.vec.Vec.{Vec}
use Rattle.std.specs.declared.alloc.Global.{Global}
use Rattle.kt_tuple.specs.declared.node.NodeId.TheVariants.{Worker}
use Rattle.kt_history.specs.declared.note.Note.{Note}
use Rattle.kt_scenario.specs.declared.step.Step.{Step}
use Rattle.kt_scenario.specs.declared.step.Step.TheVariants.{Issue}
use Rattle.kt_summary.proofs.Making.{MadeUpTo, made_none, made_noted, made_silent, none_made}
use Rattle.kt_summary.proofs.remaking.make_all.Goals as goal
use Rattle.kt_summary.proofs.remaking.make_all.Goals.{then-is_want, else-is_want}
use Rattle.kt_summary.proofs.remaking.make_all.Goals.{then-len-notes_of+in_ok-push, else-len-notes_of}

pub loop-place-init : goal.loop-place-init
loop-place-init c =
    let first = c.args.world.now.state in
    let P : List ℕ → Type 0 = λ makers. MadeUpTo first c.args.steps.now 0 first makers in
    record {
      honest = c.requires.honest;
      made = subst P (sym c.new-makers.ensures.items) (made_none first c.args.steps.now c.requires.nothing);
    }

pub returns-in-Err-clause-none : goal.returns-in-Err-clause-none
returns-in-Err-clause-none c =
    let steps = c.args.steps.now in
    let place = c.loop-place.place in
    let step : Step = get_or steps place (Issue (Worker 0)) in
    let at : step ≡ get_or steps place step = get_or_default steps place (Issue (Worker 0)) step c.loop-place-test.true in
    elim c.if-is_want.branch [
      | then-is_want w ↦ rw w.result-is tt
      | else-is_want w ↦ rw w.result-is (λ is_none.
          none_made c.args.world.now.state steps place c.loop-place.world.state step c.in-Err.cause c.loop-place.makers.items
          c.loop-place-test.true at (sym c.is_want.ensures ∙ w.if-is_want.false) c.in-Err.ensures.refusal
          c.loop-place.invariant.made)
    ]

pub loop-place-preserved : goal.loop-place-preserved
loop-place-preserved c =
    let first = c.args.world.now.state in
    let steps = c.args.steps.now in
    let place = c.loop-place.place in
    let was = c.loop-place.makers in
    let s = c.loop-place.world.state in
    let new = c.make.new.world.state in
    let step : Step = get_or steps place (Issue (Worker 0)) in
    let at : step ≡ get_or steps place step = get_or_default steps place (Issue (Worker 0)) step c.loop-place-test.true in
    let led = c.in_default.ensures.made in
    let noted = c.in_default.ensures.noted.one_note in
    let long = ap (λ (h : List Note). length h) c.notes_of.ensures in
    let items : Vec ℕ Global → List ℕ = λ v. v.items in
    let P : List ℕ → Type 0 = λ makers. MadeUpTo first steps (place + 1) new makers in
    record {
      honest = c.make.ensures.honest;
      made = elim c.if-len-notes_of.branch [
        | then-len-notes_of+in_ok-push w ↦
            let longer : length was.items < length new.history =
            omega (arith, w.if-len-notes_of.true, long, c.len.ensures, was.ok.0) in
            subst P (sym (ap items w.makers-is ∙ w.in_ok-push.ensures.items))
            (made_noted first steps place (place + 1) s new step was.items c.loop-place-test.true at refl led noted longer
            c.loop-place.invariant.made)
        | else-len-notes_of w ↦
            let short : length was.items < length new.history → ⊥ = λ longer.
            omega (arith, w.if-len-notes_of.false, long, c.len.ensures, was.ok.0, longer) in
            subst P (sym (ap items w.makers-is))
            (made_silent first steps place s new step was.items c.loop-place-test.true at led noted short c.loop-place.invariant.made)
      ];
    }
