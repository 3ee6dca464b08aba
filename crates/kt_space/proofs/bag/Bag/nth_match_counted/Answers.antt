use Rattle.std.proofs.Common.{◌≤◌, length, filter, subst, sym, ap, ◌∙◌}
use Rattle.std.specs.List.{slice_get}
use Rattle.std.specs.Option.{option_and_then}
use Rattle.kt_space.specs.Holding.{Holding}
use Rattle.kt_space.specs.Picking.{could_match, matching, up_to_match}
use Rattle.kt_space.specs.auxiliary.Slots.{filled}
use Rattle.kt_space.proofs.Bags.{match_found, searched, searched_at_most}
use Rattle.kt_space.proofs.bag.Bag.nth_match_counted.Goals as goal

pub returns-clause-value : goal.returns-clause-value
returns-clause-value c =
    c.tuple_at.ensures
    ∙ ap (λ l. option_and_then (λ p. option_and_then (λ s. s) (slice_get l p)) c.new-search.result.place) (c.deref-2.ensures.value ∙ sym c.deref.ensures.value)
    ∙ match_found c.deref.result.now c.args.template.now c.args.number c.new-search.result.left c.new-search.result.place c.new-search.ensures.found
    c.new-search.ensures.fewer
    ∙ ap (λ l. slice_get (matching c.args.template.now (filled l)) c.args.number) c.deref.ensures.value
    ∙ ap (λ (v : Holding). slice_get (matching c.args.template.now v.tuples) c.args.number) c.self.view_is

pub returns-clause-counted : goal.returns-clause-counted
returns-clause-counted c =
    c.new-search.ensures.counted
    ∙ searched c.deref.result.now c.args.template.now c.args.number c.new-search.result.left c.new-search.result.place c.new-search.ensures.found
    c.new-search.ensures.fewer
    ∙ ap (λ l. length (filter (could_match c.args.template.now) (up_to_match c.args.template.now c.args.number (filled l)))) c.deref.ensures.value
    ∙ ap (λ (v : Holding). length (filter (could_match c.args.template.now) (up_to_match c.args.template.now c.args.number v.tuples))) c.self.view_is

pub returns-clause-few : goal.returns-clause-few
returns-clause-few c =
    subst (λ (v : Holding). c.new-search.result.compared ≤ length (filter (could_match c.args.template.now) v.tuples)) c.self.view_is
    (subst (λ l. c.new-search.result.compared ≤ length (filter (could_match c.args.template.now) (filled l))) c.deref.ensures.value
    (subst (λ n. n ≤ length (filter (could_match c.args.template.now) (filled c.deref.result.now))) (sym c.new-search.ensures.counted)
    (searched_at_most c.deref.result.now c.args.template.now c.args.number c.new-search.result.place c.new-search.ensures.found)))
