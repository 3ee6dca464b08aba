use Rattle.std.proofs.Common.{◌≡◌, ◌∙◌, ◌-◌, All, List, ap, subst, sym}
use Rattle.std.specs.Prelude.{IsTrue}
use Rattle.kt_tuple.specs.declared.node.NodeId.{NodeId}
use Rattle.kt_store.specs.Content.{Content, next_instance}
use Rattle.kt_model.specs.Resumed.{history_of}
use Rattle.kt_resume.specs.declared.found.Found.{Found}
use Rattle.kt_resume.specs.Found.{content_of}
use Rattle.kt_resume.specs.Judging.{IsGood}
use Rattle.kt_core.specs.declared.resuming.ResumeError.{ResumeError}
use Rattle.kt_core.specs.declared.resuming.ResumeError.TheVariants as refusals
use Rattle.kt_core.specs.auxiliary.Gathering.{AreAllFound, IsFoundUnfit}
use Rattle.kt_core.specs.Resuming.{IsFirstUnfit}
use Rattle.kt_core.proofs.Resumes.{found-fits, found-history, found-some, found-unfit, unjudged-unfit}
use Rattle.kt_core.proofs.Steps.{on-refusal}
use Rattle.kt_core.proofs.resuming.gather.Goals as goal

pub returns-in_err-found-clause-unfit : goal.returns-in_err-found-clause-unfit
returns-in_err-found-clause-unfit g c =
    let old = g.S.CkptStore.content c.args.store.now in
    let Unfit : ResumeError → Type 0 = λ e. (p : NodeId) → e ≡ refusals.Unfit p → IsFirstUnfit c.args.scene.now old p in
    λ h. on-refusal c.from_residual.result _ Unfit c.from_residual.ensures.1
    (λ e is. subst Unfit (sym is) (λ p same. unjudged-unfit c.in_err-found.field-0.0 (IsFirstUnfit c.args.scene.now old p) c.in_err-found.ensures.unjudged p
    same))

pub returns-in_err-history-clause-unfit : goal.returns-in_err-history-clause-unfit
returns-in_err-history-clause-unfit g c =
    let old = g.S.CkptStore.content c.args.store.now in
    let Unfit : ResumeError → Type 0 = λ e. (p : NodeId) → e ≡ refusals.Unfit p → IsFirstUnfit c.args.scene.now old p in
    λ h.
    let all : AreAllFound old c.deref.result.now =
    subst (AreAllFound old) (sym c.deref.ensures.value) (c.in_ok-found.ensures.found.value (c.in_ok-next.ensures.honest h)) in
    on-refusal c.from_residual-in_err-history.result _ Unfit c.from_residual-in_err-history.ensures.1
    (λ e is. subst Unfit (sym is) (found-unfit c.args.scene.now old c.deref.result.now c.in_err-history.field-0.0 all c.in_err-history.ensures.refused))

pub returns-clause-some : goal.returns-clause-some
returns-clause-some g c =
    found-some c.args.scene.now c.deref.result.now c.in_ok-history.history.notes c.in_ok-history.ensures.fits c.in_ok-history.ensures.notes

pub returns-clause-gathered : goal.returns-clause-gathered
returns-clause-gathered g c = record {
  value = λ h.
      let old = g.S.CkptStore.content c.args.store.now in
      let first = c.in_ok-next.ensures.honest h in
      let all : AreAllFound old c.deref.result.now = subst (AreAllFound old) (sym c.deref.ensures.value) (c.in_ok-found.ensures.found.value first) in
      record {
        fits = found-fits c.args.scene.now old c.deref.result.now all c.in_ok-history.ensures.fits;
        proper = all.proper;
        history = c.in_ok-history.ensures.notes ∙ found-history c.args.scene.now old c.deref.result.now all;
        found = c.saturating_sub.ensures ∙ ap (λ n. n - 1) (c.in_ok-next.ensures.value h)
            ∙ ap (λ (d : Content). next_instance d - 1) (c.in_ok-found.ensures.found.same first);
      };
  same = λ h. c.in_ok-next.ensures.same h ∙ c.in_ok-found.ensures.found.same (c.in_ok-next.ensures.honest h);
  honest = λ h. c.in_ok-found.ensures.found.honest (c.in_ok-next.ensures.honest h);
  lasts = λ never h. c.in_ok-next.ensures.lasts never (c.in_ok-found.ensures.found.lasts never h);
  counts = c.in_ok-next.ensures.cause.counts ∙ c.in_ok-found.ensures.found.counts;
  cause = tt;
}
