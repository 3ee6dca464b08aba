use Rattle.std.proofs.Common.{rules, sym, ap, subst, filter, ◌∙◌}
use Rattle.std.specs.Option.{option_copied}
use Rattle.std.proofs.lemmas.Fn.{filter_same}
use Rattle.std.proofs.lemmas.List.Kept.{AllPairs-filter}
use Rattle.kt_vote.specs.Order.{IsBefore, IsInOrder}
use Rattle.kt_state.specs.Codes.{live_view}
use Rattle.kt_node.specs.Joining.{is_in_cohort}
use Rattle.kt_node.proofs.joining.cohort.Goals as goal

pub returns-clause-value : goal.returns-clause-value
returns-clause-value c =
    filter_same _ (is_in_cohort (option_copied c.args.permanent) (live_view c.args.live.now)) _ (λ x b f' k. search rules) _ _ c.retain.ensures.filtered
    ∙ ap (filter (is_in_cohort (option_copied c.args.permanent) (live_view c.args.live.now))) c.in_ok-nodes.ensures.value

pub returns-clause-in_order : goal.returns-clause-in_order
returns-clause-in_order c =
    subst IsInOrder
    (sym (filter_same _ (is_in_cohort (option_copied c.args.permanent) (live_view c.args.live.now)) _ (λ x b f' k. search rules) _ _ c.retain.ensures.filtered))
    (AllPairs-filter IsBefore (is_in_cohort (option_copied c.args.permanent) (live_view c.args.live.now)) _ c.in_ok-nodes.ensures.in_order)
