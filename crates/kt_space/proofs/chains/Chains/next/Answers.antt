use Rattle.std.proofs.Common.{ℕ, Some, sym, subst}
use Rattle.kt_space.specs.auxiliary.Chaining.{groups_of, Beside, Chained, Has}
use Rattle.kt_space.proofs.chains.Chains.next.Goals as goal

pub returns : goal.returns
returns c =
    subst (λ (v : Chained). (g : ℕ) → Has v.groups c.args.place g → Beside v.groups g (Some c.args.place) c.after.result) c.self.view_is
    (λ g has. subst (λ d. Beside (groups_of c.self.inside.table.links.items) g (Some c.args.place) d) (sym c.after.ensures) (c.self.invariant.forth g (Some
    c.args.place) has))
