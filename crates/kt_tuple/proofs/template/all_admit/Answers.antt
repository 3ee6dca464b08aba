use Rattle.std.proofs.Common.{◌≡◌, ◌∙◌, length, take, sym, ap, arith}
use Rattle.std.proofs.lemmas.List.{take_all}
use Rattle.kt_tuple.specs.Matching.{matches}
use Rattle.kt_tuple.proofs.Backwards.{told_apart, as_relation, other_lengths}
use Rattle.kt_tuple.proofs.template.all_admit.Goals as goal

pub returns-then-count-values-clause-meaning : goal.returns-then-count-values-clause-meaning
returns-then-count-values-clause-meaning c =
    as_relation _ c.args.places.now c.args.values.now (other_lengths c.args.places.now c.args.values.now (λ e. omega (arith, e, c.if-count-values.true)))

pub returns-then-admits-clause-meaning : goal.returns-then-admits-clause-meaning
returns-then-admits-clause-meaning c = as_relation _ c.args.places.now c.args.values.now c.each_admits.ensures

pub returns-else-admits-clause-decided : goal.returns-else-admits-clause-decided
returns-else-admits-clause-decided c =
    let t = c.args.places.now in let u = c.args.values.now in
    let long : length t ≡ length u = omega (arith, c.if-count-values.false) in
    let whole : matches t u ≡ matches (take (length t) t) (take (length t) u) =
    sym (ap (λ x. matches x (take (length t) u)) (take_all (length t) t (omega arith)) ∙ ap (matches t) (take_all (length t) u (omega (arith, long)))) in
    c.if-admits.false ∙ told_apart t u (length t) c.index-places-last.result c.index-values-last.result (omega (arith, c.if-count-eq0.false))
    (omega arith) (omega (arith, c.if-count-values.false)) whole c.index-places-last.is c.index-values-last.is
    (sym c.if-admits.false ∙ c.admits.ensures.decided)

pub returns-else-admits-clause-meaning : goal.returns-else-admits-clause-meaning
returns-else-admits-clause-meaning c = as_relation _ c.args.places.now c.args.values.now (returns-else-admits-clause-decided c)
