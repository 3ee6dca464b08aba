use Rattle.std.proofs.Common.{◌≡◌, ℕ, All, List, subst}
use Rattle.kt_script.specs.declared.command.Command.{Command}
use Rattle.kt_resume.specs.Found.{scene_of, content_of}
use Rattle.kt_resume.specs.Judging.{IsGood}
use Rattle.kt_core.proofs.resuming.fitting_history.Goals as goal

pub returns-in-None-clause-fits : goal.returns-in-None-clause-fits
returns-in-None-clause-fits c =
    let Good : ℕ → List (List Command) → Type 0 = λ n l. All (IsGood (scene_of n l) (content_of c.args.found.now)) c.args.found.now in
    subst (λ n. Good n c.args.scene.now.scripts) c.shards-shards.ensures.value
    (subst (λ l. Good c.shards-shards.result l) c.scripts-scripts.ensures.value (c.in_ok-first_unfit.ensures.none c.in-None.is))
