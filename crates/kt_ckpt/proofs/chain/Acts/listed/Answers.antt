use Rattle.std.proofs.Common.{sym, ap, map, ◌∙◌, ◌++◌, ◌-◌, length, take, reverse}
use Rattle.kt_ckpt.specs.declared.chain.Block.{Block}
use Rattle.kt_ckpt.proofs.Chains.{block_found, block_shown, map_reverse, none_shown}
use Rattle.kt_ckpt.proofs.chain.Acts.listed.Goals as goal

pub loop-acts-preserved : goal.loop-acts-preserved
loop-acts-preserved c =
    let block : Block = c.in-Last.block.value in
    let own_is = c.own.ensures ∙ ap (λ (b : Block). take (c.acts.inside.len - length b.older) b.acts.items) c.deref.ensures in
    let shown = block_shown c.acts.inside.last c.acts.inside.len c.in-Last.block c.in-Last.is c.acts.invariant in
    let acts_are = sym c.acts.view_is ∙ shown ∙ ap (λ l. block.older ++ l) (sym own_is) in
    let found = map (λ a. a.now) c.loop-acts.listed.items in
    let new = map (λ a. a.now) c.push_newest_first.new.listed.items in
    ap (λ (b : Block). b.older ++ reverse new) c.deref-in-Last.ensures
    ∙ block_found block.older c.own.result.now found new c.args.self.now c.in_ok-push_newest_first.ensures
    (ap (λ l. l ++ reverse found) (sym acts_are) ∙ c.loop-acts.invariant)

pub returns : goal.returns
returns c =
    ap (map (λ a. a.now)) c.reverse.ensures.items ∙ map_reverse (λ a. a.now) c.loop-acts.listed.items
    ∙ sym (ap (λ l. l ++ reverse (map (λ a. a.now) c.loop-acts.listed.items))
    (sym c.acts.view_is ∙ none_shown c.acts.inside.last c.acts.inside.len c.in_default.not-Last))
    ∙ c.loop-acts.invariant
