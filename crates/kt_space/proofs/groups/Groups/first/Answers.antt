use Rattle.std.proofs.Common.{◌<◌, None, subst, sym}
use Rattle.std.proofs.lemmas.Option.{slice_get_within}
use Rattle.kt_space.specs.auxiliary.Chaining.{Beside}
use Rattle.kt_space.specs.auxiliary.Grouping.{Grouped, keys_at, key_eq, key_eq_decides}
use Rattle.kt_space.proofs.Numbered.{beside_key, no_key, not_among, position_found}
use Rattle.kt_space.proofs.groups.Groups.first.Goals as goal

pub returns-in_err-group : goal.returns-in_err-group
returns-in_err-group c =
    subst (λ (v : Grouped). Beside v.keys c.args.key.now None c.from_residual.result) c.self.view_is
    (subst (λ d. Beside (keys_at c.self.inside.keys.keys c.self.inside.chains.groups) c.args.key.now None d) (sym c.from_residual.ensures)
    (no_key c.self.inside.keys.keys c.self.inside.chains.groups c.args.key.now
    (not_among key_eq key_eq_decides c.self.inside.keys.keys c.args.key.now (sym c.in_err-group.ensures.found))))

pub returns : goal.returns
returns c =
    let at = position_found key_eq key_eq_decides c.self.inside.keys.keys c.args.key.now c.in_ok-group.group (sym c.in_ok-group.ensures.index) in
    subst (λ (v : Grouped). Beside v.keys c.args.key.now None c.first.result) c.self.view_is
    (beside_key c.self.inside.keys.keys c.self.inside.chains.groups c.self.inside.chains.count c.self.invariant c.in_ok-group.group c.args.key.now at None
    c.first.result
    (c.first.ensures (subst (λ n. c.in_ok-group.group < n) c.self.invariant.counted
    (slice_get_within c.self.inside.keys.keys c.in_ok-group.group c.args.key.now at))))
