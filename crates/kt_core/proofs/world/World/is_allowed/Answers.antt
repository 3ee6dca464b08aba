use Rattle.std.proofs.Common.{◌≡◌, ◌∙◌, ap, subst}
use Rattle.std.specs.Prelude.{not, IsTrue}
use Rattle.kt_core.specs.auxiliary.Machine.{state_of, Gives}
use Rattle.kt_core.specs.Lent.{is_allowed}
use Rattle.kt_core.specs.World.{WorldModel}
use Rattle.kt_core.proofs.Steps.{asked, owner_plan-unlimited_plan, enabled}
use Rattle.kt_core.proofs.world.World.is_allowed.Goals as goal

pub returns-clause-value : goal.returns-clause-value
returns-clause-value g c =
    let s = state_of c.self.inside.machine (g.S.CkptStore.content c.self.inside.store) in
    let P : WorldModel → Type 0 = λ old. IsTrue (g.S.CkptStore.is_honest c.read_store.new.store)
    → not c.is_refused-refused.result ≡ is_allowed old.state c.args.step in
    subst P c.self.view_is (λ h. ap not c.is_refused-refused.ensures
    ∙ enabled c.unlimited_plan-unlimited_plan.result _ (subst (Gives c.unlimited_plan-unlimited_plan.result)
    (owner_plan-unlimited_plan s c.args.step c.in_ok-store_reads.store_reads
    (asked s c.args.step c.in_ok-store_reads.store_reads c.read_set-read_set.result c.owner.result
    (c.in_ok-store_reads.ensures.store_reads.value h) c.read_set-read_set.ensures c.owner.ensures)) c.unlimited_plan-unlimited_plan.ensures))
