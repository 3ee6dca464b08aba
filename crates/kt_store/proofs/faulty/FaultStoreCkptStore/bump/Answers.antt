use Rattle.std.proofs.Common.{◌≡◌, subst, sym}
use Rattle.std.specs.Prelude.{IsTrue, OnOk}
use Rattle.kt_store.specs.Changes.{bumped}
use Rattle.kt_store.proofs.Faulting.{below}
use Rattle.kt_store.proofs.faulty.FaultStoreCkptStore.bump.Goals as goal

pub returns-clause-lasts : goal.returns-clause-lasts
returns-clause-lasts g c = λ never honest.
    c.bump.ensures.lasts (below never) (subst (λ s. IsTrue (g.S.CkptStore.is_honest s)) (sym c.fails.ensures.inner) honest)

pub returns-clause-written : goal.returns-clause-written
returns-clause-written g c = λ honest.
    subst (λ s. OnOk c.bump.result (g.S.CkptStore.content c.bump.new.self ≡ bumped c.args.node (g.S.CkptStore.content s))) c.fails.ensures.inner
    (c.bump.ensures.written honest)
