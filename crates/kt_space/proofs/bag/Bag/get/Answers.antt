use Rattle.std.proofs.Common.{◌≡◌, length, ap, ◌∙◌, rules}
use Rattle.std.specs.List.{slice_get}
use Rattle.std.specs.Option.{option_and_then}
use Rattle.kt_space.specs.Holding.{Holding}
use Rattle.kt_space.specs.auxiliary.Slots.{filled}
use Rattle.kt_space.proofs.Bags.{read_full}
use Rattle.kt_space.proofs.bag.Bag.get.Goals as goal

pub returns-then-self-len : goal.returns-then-self-len
returns-then-self-len c =
    let size : length (filled c.self.inside.slots.items) ≡ length c.self.inside.slots.items = c.self.invariant.indexed.counted ∙ c.if-self-len.true
    ∙ c.len.ensures ∙ search rules in
    c.tuple_at.ensures ∙ ap (λ l. option_and_then (λ s. s) (slice_get l c.args.place)) c.deref.ensures.value
    ∙ read_full c.self.inside.slots.items c.args.place size ∙ ap (λ (v : Holding). slice_get v.tuples c.args.place) c.self.view_is

pub returns : goal.returns
returns c =
    c.nth_tuple.ensures ∙ ap (λ l. slice_get (filled l) c.args.place) c.deref-2.ensures.value
    ∙ ap (λ (v : Holding). slice_get v.tuples c.args.place) c.self.view_is
