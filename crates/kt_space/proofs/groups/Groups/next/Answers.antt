use Rattle.std.proofs.Common.{Some, subst}
use Rattle.kt_space.specs.declared.key.Key.{Key}
use Rattle.kt_space.specs.auxiliary.Chaining.{Beside, Has}
use Rattle.kt_space.specs.auxiliary.Grouping.{Grouped}
use Rattle.kt_space.proofs.Numbered.{of_key, beside_key}
use Rattle.kt_space.proofs.groups.Groups.next.Goals as goal

pub returns : goal.returns
returns c =
    subst (λ (v : Grouped). (k : Key) → Has v.keys c.args.place k → Beside v.keys k (Some c.args.place) c.next.result) c.self.view_is
    (λ k has.
    let h = of_key c.self.inside.keys.keys c.self.inside.chains.groups c.args.place k has in
    beside_key c.self.inside.keys.keys c.self.inside.chains.groups c.self.inside.chains.count c.self.invariant h.0 k h.2 (Some c.args.place) c.next.result
    (c.next.ensures h.0 h.1))
