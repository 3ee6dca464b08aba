use Rattle.std.proofs.Common.{◌≡◌, ◌<◌, ◌≤◌, List, length, get_or, refl, ap, ◌∙◌, subst, arith}
use Rattle.kt_tuple.specs.declared.node.NodeId.{NodeId}
use Rattle.kt_state.specs.declared.message.Message.{Message}
use Rattle.kt_story.proofs.Arriving.{goes_all, goes_more, goes_none}
use Rattle.kt_story.proofs.arrow.push_arrows.Goals as goal

pub loop-to-init : goal.loop-to-init
loop-to-init c = goes_none c.args.story.now c.args.row.now c.args.row.now.sent c.args.found.now.items c.args.ways.now

pub loop-to-preserved : goal.loop-to-preserved
loop-to-preserved c =
    let sent = c.args.row.now.sent in
    let x = c.loop-to-item.result in
    let lt : c.loop-to.to-index < length sent =
    subst (λ (l : List (NodeId × Message)). c.loop-to.to-index < length l) c.messages-to-items.ensures c.loop-to-test.true in
    let at : x ≡ get_or sent c.loop-to.to-index x =
    c.loop-to-item.is ∙ ap (λ (l : List (NodeId × Message)). get_or l c.loop-to.to-index x) c.messages-to-items.ensures in
    goes_more c.args.story.now c.args.row.now sent c.loop-to.to-index x.0 x.1 c.args.found.now.items c.loop-to.found.items
    c.push_arrow.new.found.items c.args.ways.now c.loop-to.ways c.push_arrow.new.ways lt at c.loop-to.invariant
    c.in_ok-push_arrow.ensures.found c.in_ok-push_arrow.ensures.ways

pub returns-clause-found : goal.returns-clause-found
returns-clause-found c =
    let sent = c.args.row.now.sent in
    let past : length c.messages-to-items.result.now ≤ c.loop-to.to-index = omega (arith, c.loop-to-test.false) in
    let end : length sent ≤ c.loop-to.to-index =
    subst (λ (l : List (NodeId × Message)). length l ≤ c.loop-to.to-index) c.messages-to-items.ensures past in
    (goes_all c.args.story.now c.args.row.now sent c.loop-to.to-index c.args.found.now.items c.loop-to.found.items c.args.ways.now
    c.loop-to.ways end refl c.loop-to.invariant).0

pub returns-clause-ways : goal.returns-clause-ways
returns-clause-ways c =
    let sent = c.args.row.now.sent in
    let past : length c.messages-to-items.result.now ≤ c.loop-to.to-index = omega (arith, c.loop-to-test.false) in
    let end : length sent ≤ c.loop-to.to-index =
    subst (λ (l : List (NodeId × Message)). length l ≤ c.loop-to.to-index) c.messages-to-items.ensures past in
    (goes_all c.args.story.now c.args.row.now sent c.loop-to.to-index c.args.found.now.items c.loop-to.found.items c.args.ways.now
    c.loop-to.ways end refl c.loop-to.invariant).1
