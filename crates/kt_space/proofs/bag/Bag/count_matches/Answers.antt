use Rattle.std.proofs.Common.{◌≡◌, length, ap, ◌∙◌, rules}
use Rattle.kt_space.specs.Holding.{Holding}
use Rattle.kt_space.specs.Picking.{matching}
use Rattle.kt_space.specs.auxiliary.Slots.{filled}
use Rattle.kt_space.proofs.Bags.{counted}
use Rattle.kt_space.proofs.bag.Bag.count_matches.Goals as goal

pub returns : goal.returns
returns c =
    let size : c.len-most.result ≡ length c.deref.result.now = c.len-most.ensures ∙ search rules in
    counted c.deref.result.now c.args.template.now c.len-most.result c.new.result.left c.new.result.place size c.new.ensures.found c.new.ensures.fewer
    ∙ ap (λ l. length (matching c.args.template.now (filled l))) c.deref.ensures.value
    ∙ ap (λ (v : Holding). length (matching c.args.template.now v.tuples)) c.self.view_is
