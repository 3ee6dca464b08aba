use Rattle.std.proofs.Common.{◌≡◌, ◌∙◌, ℕ, ◌≤◌, List, ap, map, length, take, arith, subst}
use Rattle.std.specs.Prelude.{IsTrue}
use Rattle.kt_tuple.specs.declared.node.NodeId.{NodeId}
use Rattle.kt_ckpt.proofs.Shared.{take-whole}
use Rattle.kt_store.specs.Content.{Content, nodes_in}
use Rattle.kt_store.specs.Proper.{IsProper}
use Rattle.kt_core.specs.auxiliary.Gathering.{found_in}
use Rattle.kt_core.proofs.resuming.find_all.Goals as goal

pub returns-clause-found : goal.returns-clause-found
returns-clause-found g c = record {
  value = λ h.
      let inv = c.loop-node.invariant in
      let first = inv.0.honest h in
      let stays = c.in_ok-nodes.ensures.same first in
      let items = c.deref-node-items.ensures.value in
      let old = g.S.CkptStore.content c.args.store.now in
      let past = c.loop-node-test.false in
      let within = c.loop-node.auto.node-index-end in
      let end : c.loop-node.node-index ≡ length c.deref-node-items.result.now = omega (arith, past, within) in
      record {
        each = inv.1 h
            ∙ ap (λ (d : Content). map (found_in d) (take c.loop-node.node-index c.deref-node-items.result.now)) stays
            ∙ ap (map (found_in old)) (ap (λ n. take n c.deref-node-items.result.now) end ∙ take-whole c.deref-node-items.result.now
            ∙ items ∙ c.in_ok-nodes.ensures.value first);
        proper = c.in_ok-nodes.ensures.proper first;
      };
  same = λ h. let inv = c.loop-node.invariant in inv.0.same h ∙ c.in_ok-nodes.ensures.same (inv.0.honest h);
  honest = λ h. let inv = c.loop-node.invariant in c.in_ok-nodes.ensures.honest (inv.0.honest h);
  lasts = λ never h. let inv = c.loop-node.invariant in inv.0.lasts never (c.in_ok-nodes.ensures.lasts never h);
  counts = let inv = c.loop-node.invariant in inv.0.counts ∙ c.in_ok-nodes.ensures.cause.counts;
  cause = tt;
}
