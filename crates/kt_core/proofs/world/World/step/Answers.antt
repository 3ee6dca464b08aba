use Rattle.std.proofs.Common.{subst}
use Rattle.std.specs.Prelude.{IsTrue, OnOk}
use Rattle.kt_model.specs.Forced.{IsForced}
use Rattle.kt_model.specs.Headline.{IsNoted}
use Rattle.kt_core.specs.auxiliary.Machine.{state_of}
use Rattle.kt_store.specs.Content.{empty_content}
use Rattle.kt_core.specs.Stepping.{IsByPlan}
use Rattle.kt_core.specs.World.{WorldModel}
use Rattle.kt_core.proofs.Steps.{step_plan-beside}
use Rattle.kt_model.proofs.Shared.{reached-kept, undamaged-reached}
use Rattle.kt_refinement.proofs.Shared.{headline-reached, leaves-fitting}
use Rattle.kt_core.proofs.Worlds.{step-forced, step-noted, step-world}
use Rattle.kt_core.proofs.world.World.step.Goals as goal

pub make-requires-clause-backed : goal.make-requires-clause-backed
make-requires-clause-backed g c = λ h. (reached-kept _ (c.self.invariant.reached h)).backed

pub make-requires-clause-undamaged : goal.make-requires-clause-undamaged
make-requires-clause-undamaged g c = λ h. undamaged-reached _ (c.self.invariant.reached h)

pub invariant_of-self : goal.invariant_of-self
invariant_of-self g c =
    step-world c.make.result c.self.inside.machine c.make.new.machine (g.S.CkptStore.content c.self.inside.store) (g.S.CkptStore.content c.make.new.store)
    (g.S.CkptStore.is_honest c.self.inside.store) (g.S.CkptStore.is_honest c.make.new.store) c.args.step
    c.self.invariant c.make.ensures.ready c.make.ensures.honest c.make.ensures.effect
    c.make.ensures.same c.make.ensures.content

pub returns-clause-headline : goal.returns-clause-headline
returns-clause-headline g c =
    let world = step-world c.make.result c.self.inside.machine c.make.new.machine
    (g.S.CkptStore.content c.self.inside.store) (g.S.CkptStore.content c.make.new.store)
    (g.S.CkptStore.is_honest c.self.inside.store) (g.S.CkptStore.is_honest c.make.new.store) c.args.step
    c.self.invariant c.make.ensures.ready c.make.ensures.honest c.make.ensures.effect
    c.make.ensures.same c.make.ensures.content in λ h. headline-reached _ (world.reached h)

pub returns-clause-forced : goal.returns-clause-forced
returns-clause-forced g c =
    let new = state_of c.make.new.machine (g.S.CkptStore.content c.make.new.store) in
    let P : WorldModel → Type 0 = λ old. IsTrue (g.S.CkptStore.is_honest c.make.new.store) → OnOk c.make.result (IsForced old.state c.args.step new) in
    subst P c.self.view_is (λ h. step-forced c.make.result (state_of c.self.inside.machine (g.S.CkptStore.content c.self.inside.store)) new c.args.step
    (c.self.invariant.reached (c.make.ensures.honest h)) (c.make.ensures.effect h))

pub returns-clause-noted : goal.returns-clause-noted
returns-clause-noted g c =
    let new = state_of c.make.new.machine (g.S.CkptStore.content c.make.new.store) in
    let P : WorldModel → Type 0 = λ old. IsTrue (g.S.CkptStore.is_honest c.make.new.store) → OnOk c.make.result (IsNoted old.state c.args.step new) in
    subst P c.self.view_is (λ h. step-noted c.make.result (state_of c.self.inside.machine (g.S.CkptStore.content c.self.inside.store)) new c.args.step
    (c.self.invariant.reached (c.make.ensures.honest h)) (c.make.ensures.effect h))

pub returns-clause-by_plan : goal.returns-clause-by_plan
returns-clause-by_plan g c =
    let old = g.S.CkptStore.content c.self.inside.store in
    let now = g.S.CkptStore.content c.make.new.store in
    let P : WorldModel → Type 0 = λ w. OnOk c.make.result (IsByPlan w.state c.args.step (state_of c.make.new.machine now)) in
    subst P c.self.view_is (step_plan-beside c.make.result c.self.inside.machine c.make.new.machine empty_content old now c.args.step c.make.ensures.by_plan)

pub returns-clause-fits : goal.returns-clause-fits
returns-clause-fits g c =
    let world = step-world c.make.result c.self.inside.machine c.make.new.machine
    (g.S.CkptStore.content c.self.inside.store) (g.S.CkptStore.content c.make.new.store)
    (g.S.CkptStore.is_honest c.self.inside.store) (g.S.CkptStore.is_honest c.make.new.store) c.args.step
    c.self.invariant c.make.ensures.ready c.make.ensures.honest c.make.ensures.effect
    c.make.ensures.same c.make.ensures.content in λ h. leaves-fitting _ (world.reached h)
