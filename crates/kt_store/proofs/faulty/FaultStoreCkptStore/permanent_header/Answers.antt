use Rattle.std.proofs.Common.{subst, sym}
use Rattle.std.specs.Prelude.{IsTrue}
use Rattle.kt_store.proofs.Faulting.{below}
use Rattle.kt_store.proofs.faulty.FaultStoreCkptStore.permanent_header.Goals as goal

pub returns-clause-lasts : goal.returns-clause-lasts
returns-clause-lasts g c = λ never honest.
    c.permanent_header.ensures.lasts (below never) (subst (λ s. IsTrue (g.S.CkptStore.is_honest s)) (sym c.fails.ensures.inner) honest)
