use Rattle.std.proofs.Common.{drop, sym, ap, ◌∙◌}
use Rattle.std.specs.Prelude.{is_some}
use Rattle.kt_script.specs.auxiliary.Left.{has_next_from}
use Rattle.kt_script.specs.Next.{next_at}
use Rattle.kt_script.specs.Variables.{variables_of}
use Rattle.kt_script.proofs.Remains.{is_some-next_from, is_some-op_of_next}
use Rattle.kt_script.proofs.Reaches.{asked-there}
use Rattle.kt_script.proofs.script.Script.has_next.Goals as goal

pub returns-clause-value : goal.returns-clause-value
returns-clause-value c =
    c.has_next_from.ensures
    ∙ ap (λ b. has_next_from b 0 c.commands_from.result.now) c.was_none-none.ensures
    ∙ ap (has_next_from c.args.env.now.was_none 0) c.commands_from.ensures.value
    ∙ sym (is_some-next_from (variables_of c.args.self.now) c.args.env.now 0 c.args.pc (drop c.args.pc c.args.self.now))

pub returns-clause-asks : goal.returns-clause-asks
returns-clause-asks c = λ answers leads.
    returns-clause-value c
    ∙ sym (is_some-op_of_next (next_at c.args.self.now (record { pc = c.args.pc; memory = c.args.env.now })))
    ∙ ap is_some (asked-there c.args.self.now answers _ leads)
