use Rattle.kt_words.proofs.Growing.{◌⊳◌}
use Rattle.kt_words.proofs.page_commands.push_options.Goals as goal

pub loop-option-preserved : goal.loop-option-preserved
loop-option-preserved c =
    c.loop-option.invariant ⊳ c.in_ok-push_text.ensures.extends ⊳ c.in_ok-push_option.ensures.extends ⊳ c.in_ok-push_text-2.ensures.extends
