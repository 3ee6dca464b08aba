use Rattle.std.proofs.Common.{None, Some, sym, ◌∙◌}
use Rattle.kt_resume.proofs.Founds.{permanent-found}
use Rattle.kt_resume.proofs.found.checkpoint_of.Goals as goal

pub returns-in-Some : goal.returns-in-Some
returns-in-Some c =
    c.as_ref.ensures.value ∙ sym (permanent-found c.args.found.now c.args.node (Some c.in-Some.held.now) (sym c.in-Some.ensures))

pub returns-in-None : goal.returns-in-None
returns-in-None c = sym (permanent-found c.args.found.now c.args.node None (sym c.in-None.ensures))
