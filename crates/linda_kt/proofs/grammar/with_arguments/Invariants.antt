use Rattle.std.proofs.Common.{◌≡◌, map, take}
use Rattle.clap.specs.declared.builder.command.Command.TheViews.{out-Command as fields_of}
use Rattle.clap.specs.Simple.{shape_of}
use Rattle.linda_kt.specs.auxiliary.Table.{argument_rule, with_rules}
use Rattle.linda_kt.proofs.grammar.with_arguments.Given as goal

abbrev pub invariant-loop-words : goal.invariant-loop-words
invariant-loop-words l = record {
  shape : shape_of l.command ≡ with_rules (shape_of l.fn.command) (map argument_rule (take l.words-index l.arguments));
  local : (fields_of l.command).has_globals ≡ (fields_of l.fn.command).has_globals;
}
