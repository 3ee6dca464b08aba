use Rattle.std.proofs.Common.{sym, ◌∙◌}
use Rattle.kt_space.proofs.Asked.{asked_with_first, asked_with_kinds}
use Rattle.kt_space.proofs.search.Search.new.Goals as goal

pub among-requires : goal.among-requires
among-requires c =
    asked_with_first c.args.slots.now c.args.index.now.by_first.keys c.of_template-key.result c.args.template.now c.of_template-key.ensures
    (sym c.has_first.ensures ∙ c.if-has_first.true) c.requires.firsts

pub among-requires-else-has_first : goal.among-requires-else-has_first
among-requires-else-has_first c =
    asked_with_kinds c.args.slots.now c.args.index.now.by_kinds.keys c.of_template-key.result c.args.template.now c.of_template-key.ensures
    (sym c.has_first.ensures ∙ c.if-has_first.false) c.requires.kinds
