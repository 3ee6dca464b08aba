use Rattle.std.proofs.Common.{ap, refl, subst, ◌∙◌, List, ◌++◌, ◌∷◌, []}
use Rattle.std.specs.Prelude.{None, Option, Some}
use Rattle.kt_scenario.specs.declared.step.Step.{Step}
use Rattle.kt_store.specs.Calls.{Counts}
use Rattle.kt_complete.specs.auxiliary.Going.{IsOneMore, MakesNext}
use Rattle.kt_complete.proofs.Onward.{fewer_left, went_listed, went_more, went_none, went_stays}
use Rattle.kt_complete.proofs.going.go_on.Goals as goal

pub going-init : goal.going-init
going-init g c = record { went = went_none c.args.world.now c.args.steps.now.items; counts = refl }

pub going-smaller : goal.going-smaller
going-smaller g c =
    fewer_left c.going.world c.make_next.new.world c.in-Some.step
    (subst (λ (o : Option Step). IsOneMore c.going.world c.make_next.new.world o) c.in-Some.is c.in-Ok.ensures.more)

pub going-preserved : goal.going-preserved
going-preserved g c =
    let made : MakesNext c.going.world c.make_next.new.world (Some c.in-Some.step) =
    subst (λ (o : Option Step). MakesNext c.going.world c.make_next.new.world o) c.in-Some.is c.in-Ok.ensures.made in
    record {
      went = went_more c.args.world.now c.going.world c.make_next.new.world c.args.steps.now.items c.going.steps.items
          c.push_reserved.new.self.items c.in-Some.step
          c.going.invariant.went made c.make_next.ensures.honest
          (◌∙◌ {A = List Step} c.push_reserved.ensures.items (ap (λ (xs : List Step). xs ++ c.in-Some.step ∷ []) c.reserve.ensures.items));
      counts = ◌∙◌ {A = Counts} c.in-Ok.ensures.counts c.going.invariant.counts;
    }

pub returns-in-None-clause-went : goal.returns-in-None-clause-went
returns-in-None-clause-went g c =
    let none : MakesNext c.going.world c.make_next.new.world None =
    subst (λ (o : Option Step). MakesNext c.going.world c.make_next.new.world o) c.in-None.is c.in-Ok.ensures.made in
    went_listed c.args.world.now c.make_next.new.world c.args.steps.now.items c.going.steps.items c.reserve.new.self.items c.reserve.ensures.items
    (went_stays c.args.world.now c.going.world c.make_next.new.world c.args.steps.now.items c.going.steps.items c.going.invariant.went
    (λ h. (none h).0) c.make_next.ensures.honest)

pub returns-in-None-clause-ended : goal.returns-in-None-clause-ended
returns-in-None-clause-ended g c =
    let none : MakesNext c.going.world c.make_next.new.world None =
    subst (λ (o : Option Step). MakesNext c.going.world c.make_next.new.world o) c.in-None.is c.in-Ok.ensures.made in
    record { over = λ h. (none h).1; counts = ◌∙◌ {A = Counts} c.in-Ok.ensures.counts c.going.invariant.counts }
