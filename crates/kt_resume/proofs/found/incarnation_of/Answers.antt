use Rattle.std.proofs.Common.{ap, None, Some, sym}
use Rattle.kt_store.specs.declared.rows.NodeRow.{NodeRow}
use Rattle.kt_resume.proofs.Founds.{row-found}
use Rattle.kt_resume.proofs.found.incarnation_of.Goals as goal

pub returns-in-Some : goal.returns-in-Some
returns-in-Some c =
    sym (ap (λ (r : NodeRow). r.incarnation) (row-found c.args.found.now c.args.node (Some c.in-Some.held.now) (sym c.in-Some.ensures)))

pub returns-in-None : goal.returns-in-None
returns-in-None c = sym (ap (λ (r : NodeRow). r.incarnation) (row-found c.args.found.now c.args.node None (sym c.in-None.ensures)))
