use Rattle.kt_words.proofs.Growing.{Extends-itself, Extends-then, no_commands, commands_more, all_commands}
use Rattle.kt_words.proofs.zsh.push_cases.Goals as goal

pub loop-command-init : goal.loop-command-init
loop-command-init c = record { extends = Extends-itself _; words = no_commands _ c.args.commands.now }

pub loop-command-preserved : goal.loop-command-preserved
loop-command-preserved c = record {
  extends = Extends-then _ _ _ c.loop-command.invariant.extends c.in_ok-push_case.ensures.extends;
  words = commands_more _ _ _ _ _ c.loop-command-test.true c.in_ok-push_case.ensures.extends c.loop-command.invariant.words
      c.in_ok-push_case.ensures.words;
}

pub returns-clause-words : goal.returns-clause-words
returns-clause-words c = all_commands _ c.args.commands.now c.loop-command.command-index c.loop-command-test.false c.loop-command.invariant.words
