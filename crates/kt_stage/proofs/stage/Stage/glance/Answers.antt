-- Of `Stage::glance` in src/glance.rt.
use Rattle.std.proofs.Common.{subst, sym}
use Rattle.kt_stage.specs.Journal.{Journal}
use Rattle.kt_stage.specs.Running.{IsRefusedAt}
use Rattle.kt_stage.proofs.stage.Stage.glance.Goals as goal

-- what was refused is said of the same journal
pub invariant_of-deref_mut : goal.invariant_of-deref_mut
invariant_of-deref_mut g c = record {
  due = λ x e.
      subst (λ (j : Journal). IsRefusedAt g.L.Naming.opening.counts j x.at x.cause) (sym c.glance.ensures.same) (c.deref_mut.result.now.due x e);
}
