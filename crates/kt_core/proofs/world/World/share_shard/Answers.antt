use Rattle.std.proofs.Common.{subst, sym, ap, ◌∙◌}
use Rattle.kt_model.specs.State.{State}
use Rattle.kt_core.specs.World.{WorldModel}
use Rattle.kt_core.specs.auxiliary.Kept.{IsWorld}
use Rattle.kt_core.proofs.world.World.share_shard.Goals as goal

pub invariant_of-self : goal.invariant_of-self
invariant_of-self g c =
    subst (λ (s : State). IsWorld s (g.S.CkptStore.is_honest c.self.inside.store))
    (sym (c.share_shard_at.ensures.same (g.S.CkptStore.content c.self.inside.store))) c.self.invariant

pub returns-clause-same : goal.returns-clause-same
returns-clause-same g c =
    let with_state : State → WorldModel = λ s. record {
      state = s;
      is_honest = g.S.CkptStore.is_honest c.self.inside.store;
      counts = g.S.CkptStore.counts c.self.inside.store;
    } in
    ap with_state (c.share_shard_at.ensures.same (g.S.CkptStore.content c.self.inside.store)) ∙ c.self.view_is
