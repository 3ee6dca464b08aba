use Rattle.std.proofs.Common.{sym, ◌∙◌}
use Rattle.kt_script.proofs.Pushed.{on_ok, insert_entry-unknown, with_binding-unknown}
use Rattle.kt_script.proofs.variables.bind.Goals as goal

pub returns-in-None-clause-value : goal.returns-in-None-clause-value
returns-in-None-clause-value c =
    on_ok _ _ (c.insert.ensures.succeeds c.requires) c.insert.ensures.entries
    ∙ insert_entry-unknown c.args.variables.now.entries c.args.name c.args.kind c.in-None.ensures
    ∙ sym (with_binding-unknown c.args.variables.now.entries c.args.name c.args.kind c.in-None.ensures)
