use Rattle.std.proofs.Common.{subst, sym}
use Rattle.kt_core.specs.declared.start.Start.{Start}
use Rattle.kt_core.specs.declared.start.StartRefused.{StartRefused}
use Rattle.kt_core.specs.Starting.{Begins, IsUnbegun}
use Rattle.kt_core.specs.Store.{store_value}
use Rattle.kt_core.proofs.start.Start.begin.Goals as goal

pub returns-in-Ok-resume-clause-begins : goal.returns-in-Ok-resume-clause-begins
returns-in-Ok-resume-clause-begins g c =
    let Begun : Start → Type 0 = λ s. Begins s (g.S.CkptStore.content c.args.store) c.args.scene c.in-Ok-resume.world.state in
    λ h. subst Begun (sym c.in-Resume.is) (c.in-Ok-resume.ensures.fits h, c.in-Ok-resume.ensures.resumed h)

pub returns-in-Err-resume-clause-refused : goal.returns-in-Err-resume-clause-refused
returns-in-Err-resume-clause-refused g c =
    let Refused : StartRefused g.row.S.Denot → Type 0 =
    λ r. IsUnbegun c.args.scene (store_value g.S.CkptStore c.args.store) (store_value g.S.CkptStore r.store) r.cause in
    subst Refused (sym c.unresumed.ensures) (record {
      content = c.in-Err-resume.ensures.content_back;
      honest = c.in-Err-resume.ensures.honest_back;
      counts = c.in-Err-resume.ensures.counts_back;
      why = c.in-Err-resume.ensures.cause;
      unfit = c.in-Err-resume.ensures.unfit;
    })
