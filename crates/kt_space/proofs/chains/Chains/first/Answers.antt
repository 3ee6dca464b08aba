use Rattle.std.proofs.Common.{None, ◌<◌, sym, subst}
use Rattle.kt_space.specs.auxiliary.Chaining.{groups_of, Beside, Chained}
use Rattle.kt_space.proofs.chains.Chains.first.Goals as goal

pub returns : goal.returns
returns c =
    subst (λ (v : Chained). c.args.group < v.count → Beside v.groups c.args.group None c.after.result) c.self.view_is
    (λ lt. subst (λ d. Beside (groups_of c.self.inside.table.links.items) c.args.group None d) (sym c.after.ensures) (c.self.invariant.forth c.args.group
    None lt))
