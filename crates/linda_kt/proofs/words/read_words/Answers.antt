use Rattle.std.proofs.Common.{◌≡◌, ◌∙◌, rules, Option, Ok, option_map, sym, ap}
use Rattle.kt_command.specs.Asking.{asked}
use Rattle.kt_command.specs.Command.{texts}
use Rattle.linda_kt.specs.Words.{answer_of, asked_of_met, kinds_of, misfit_kinds, ok_of}
use Rattle.linda_kt.proofs.Parsed.{Lent, answer_is, fault_is, pair_of, passed_on, refused_by, still_fails}
use Rattle.linda_kt.proofs.words.read_words.Goals as goal

pub returns-in_err-matches-clause-refused : goal.returns-in_err-matches-clause-refused
returns-in_err-matches-clause-refused c =
    let kind = c.in_err-matches.ensures.kinds (search rules) in
    passed_on _ c.in_err-matches.field-0.0 c.from_residual-in_err-matches.result
    (still_fails _ _ c.in_err-matches.field-0.0 c.in_ok-command_line.ensures kind) (search rules)

pub returns-in-Ok-clause-command : goal.returns-in-Ok-clause-command
returns-in-Ok-clause-command c =
    let answer : answer_of (texts c.args.words.now) ≡ Ok (asked c.in-Ok.request) =
    answer_is _ _ _ c.subcommand.result c.in_ok-command_line.ensures c.in_ok-matches.ensures.matches c.subcommand.ensures.name
    c.subcommand.ensures.rows
    ∙ ap (λ (o : Option Lent). asked_of_met (option_map pair_of o)) c.in-Some.is ∙ sym c.in-Ok.ensures in
    ap ok_of answer

pub returns-in-Ok-clause-refused : goal.returns-in-Ok-clause-refused
returns-in-Ok-clause-refused c =
    fault_is _ _ _ c.subcommand.result c.in_ok-command_line.ensures c.in_ok-matches.ensures.matches c.subcommand.ensures.name
    c.subcommand.ensures.rows (c.in_ok-matches.ensures.kinds (search rules))
    ∙ ap (λ (o : Option Lent). misfit_kinds (asked_of_met (option_map pair_of o))) c.in-Some.is ∙ ap misfit_kinds (sym c.in-Ok.ensures)

pub returns-clause-refused : goal.returns-clause-refused
returns-clause-refused c =
    let is =
    fault_is _ _ _ c.subcommand.result c.in_ok-command_line.ensures c.in_ok-matches.ensures.matches c.subcommand.ensures.name
    c.subcommand.ensures.rows (c.in_ok-matches.ensures.kinds (search rules))
    ∙ ap (λ (o : Option Lent). misfit_kinds (asked_of_met (option_map pair_of o))) c.in-Some.is ∙ ap misfit_kinds (sym c.in-Err.ensures) in
    refused_by _ (kinds_of c.in-Err.misfit) c.refuse-in-Err.result is c.refuse-in-Err.ensures
