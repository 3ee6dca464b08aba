use Rattle.std.proofs.Common.{is_some, rules}
use Rattle.std.proofs.lemmas.Fn.{filter_same}
use Rattle.kt_space.proofs.bag.drop_empty.Goals as goal

pub returns : goal.returns
returns c = filter_same _ (λ s. is_some s) _ (λ x b f' k. search rules) _ _ c.retain.ensures.filtered
