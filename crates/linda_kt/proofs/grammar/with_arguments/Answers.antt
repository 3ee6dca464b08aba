use Rattle.std.proofs.Common.{refl, ap, ◌∙◌, map}
use Rattle.std.proofs.lemmas.List.{take_all}
use Rattle.clap.specs.Words.{shape_of}
use Rattle.linda_kt.proofs.Tables.{more_rules, no_rules, same_globals}
use Rattle.linda_kt.specs.auxiliary.Table.{argument_rule, with_rules}
use Rattle.linda_kt.proofs.grammar.with_arguments.Goals as goal

pub loop-words-init : goal.loop-words-init
loop-words-init c = record { shape = no_rules (shape_of c.args.command); local = refl }

pub loop-words-preserved : goal.loop-words-preserved
loop-words-preserved c =
    let adds = c.in_ok-command.ensures in
    record {
      shape = more_rules argument_rule c.args.arguments.now c.loop-words.words-index _ (shape_of c.args.command) _ _ _ c.loop-words-test.true
          adds c.argument.ensures.local c.argument.ensures.rule c.loop-words.invariant.shape;
      local = same_globals _ _ _ _ adds c.argument.ensures.local c.loop-words.invariant.local;
    }

pub returns : goal.returns
returns c = record {
  shape =
      c.loop-words.invariant.shape
      ∙ ap (λ ws. with_rules (shape_of c.args.command) (map argument_rule ws)) (take_all _ c.args.arguments.now c.loop-words-test.false);
  local = c.loop-words.invariant.local;
}
