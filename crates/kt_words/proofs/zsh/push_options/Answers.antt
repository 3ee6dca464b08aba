use Rattle.kt_words.proofs.Growing.{Extends-itself, Extends-then, no_options, options_more, all_options}
use Rattle.kt_words.proofs.zsh.push_options.Goals as goal

pub loop-option-init : goal.loop-option-init
loop-option-init c = record { extends = Extends-itself _; words = no_options _ c.args.options.now }

pub loop-option-preserved : goal.loop-option-preserved
loop-option-preserved c = record {
  extends = Extends-then _ _ _ c.loop-option.invariant.extends c.in_ok-push_option.ensures.extends;
  words = options_more _ _ _ _ _ c.loop-option-test.true c.in_ok-push_option.ensures.extends c.loop-option.invariant.words
      c.in_ok-push_option.ensures.word;
}

pub returns-clause-words : goal.returns-clause-words
returns-clause-words c = all_options _ c.args.options.now c.loop-option.option-index c.loop-option-test.false c.loop-option.invariant.words
