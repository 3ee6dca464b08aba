-- The parts of the table, printable each.
-- Cited by Tables, bash.rt, completing.rt, fish.rt, page.rt, page_commands.rt, zsh.rt.
use Rattle.std.specs.Prelude.{All, IfSome}
use Rattle.kt_words.specs.declared.words.OptionWords.{OptionWords}
use Rattle.kt_words.specs.declared.words.ArgumentWords.{ArgumentWords}
use Rattle.kt_words.specs.declared.words.CommandWords.{CommandWords}
use Rattle.kt_words.specs.declared.status_table.StatusWords.{StatusWords}
use Rattle.kt_words.specs.Plain.{IsPlain}

pub record IsPlainOption (option : OptionWords) : Type 0 where
  pub long : IsPlain option.long.now
  pub value : IfSome option.value (λ v. IsPlain v.now)
  pub help : IsPlain option.help.now

pub record IsPlainArgument (argument : ArgumentWords) : Type 0 where
  pub name : IsPlain argument.name.now
  pub help : IsPlain argument.help.now
  pub values : All (λ v. IsPlain v.now) argument.values.now

pub record IsPlainCommand (command : CommandWords) : Type 0 where
  pub name : IsPlain command.name.now
  pub about : IsPlain command.about.now
  pub arguments : All IsPlainArgument command.arguments.now
  pub options : All IsPlainOption command.options.now

pub record IsPlainStatus (status : StatusWords) : Type 0 where
  pub number : IsPlain status.number.now
  pub text : IsPlain status.text.now
