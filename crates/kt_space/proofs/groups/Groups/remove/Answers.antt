use Rattle.std.proofs.Common.{None, set, ap, ◌∙◌}
use Rattle.kt_space.specs.auxiliary.Grouping.{Grouped, keys_at}
use Rattle.kt_space.proofs.Numbered.{keys_without}
use Rattle.kt_space.proofs.groups.Groups.remove.Goals as goal

pub returns-clause-keys : goal.returns-clause-keys
returns-clause-keys c =
    ap (keys_at c.self.inside.keys.keys) c.remove.ensures.groups
    ∙ keys_without c.self.inside.keys.keys c.self.inside.chains.groups c.args.place
    ∙ ap (λ (v : Grouped). set v.keys c.args.place None) c.self.view_is
