-- A node that is down learns the verdict on its tentative checkpoint. Of Yes the machine knew since it was written; where
-- it is No, the log is cut to the permanent checkpoint, and the machine fails once more.
-- Cited by Refining.
use Rattle.std.proofs.Common.{◌≡◌, ℕ, true, false, IsTrue, Option, Some, None, refl, sym, ap, subst, ◌∙◌, inl}
use Rattle.std.specs.Prelude.{unwrap_or}
use Rattle.std.specs.Option.{option_map}
use Rattle.kt_tuple.specs.declared.node.NodeId.{NodeId}
use Rattle.kt_tuple.specs.Node.{node_index}
use Rattle.kt_history.specs.Log.{log}
use Rattle.kt_ckpt.specs.Header.{header_of}
use Rattle.kt_store.specs.declared.rows.NodeRow.{NodeRow}
use Rattle.kt_store.specs.declared.rows.Verdict.{Verdict as RealVerdict}
use Rattle.kt_store.specs.Verdict.{verdict_from}
use Rattle.kt_store.specs.Content.{row_of, verdict_on}
use Rattle.kt_state.specs.declared.plan.Plan.{Plan}
use Rattle.kt_state.specs.Node.{Node as RealNode, Down as IsDownNode}
use Rattle.kt_state.specs.Stored.{acts_in}
use Rattle.kt_node.specs.Learning.{promote_down_plan, discard_down_plan}
use Rattle.kt_node.specs.Deciding.{settled}
use Rattle.kt_scenario.specs.declared.step.Step.TheVariants.{Learn}
use Rattle.kt_scenario.specs.Scene.{is_node}
use Rattle.kt_model.specs.Cut.{acts_held, permanent_by}
use Rattle.kt_model.specs.State.{State as World, node, view}
use Rattle.kt_model.specs.StoreReads.{store_reads, to_learn}
use Rattle.kt_model.specs.Effect.{applied}
use Rattle.kt_model.specs.Writing.{content_after}
use Rattle.kt_model.proofs.Shared.{IsDown, settled-is, held_header, has_fallen, MayNote, Holds}
use Rattle.kt_protocol.specs.Machine.{Node, State}
use Rattle.kt_protocol.specs.Steps.{falling, cutting, fails, change}
use Rattle.kt_protocol.specs.Runs.{nothing_done, one_more}
use Rattle.kt_protocol.proofs.Shared.{at-same}
use Rattle.kt_refinement.proofs.Represents.{carried, NodeIn, Represents}
use Rattle.kt_refinement.proofs.Links.{to}
use Rattle.kt_refinement.proofs.Frames.{Refines, owner-in, nodes-at, votes-at, links-idle, leads-represents}
use Rattle.kt_refinement.proofs.Falling.{fallen-is}
use Rattle.kt_refinement.proofs.Releases.{undecided-none, permanent-left, dealt-with, none-held}

-- the verdict that it learns is the one of its tentative checkpoint
learnt-down : (s : World) (p : NodeId) → node s p ≡ Some IsDownNode → (store_reads s (Learn p)).verdict ≡ verdict_on s.content (row_of s.content p).tentative
learnt-down s p fallen = ap (λ x. to_learn s.content p (unwrap_or x IsDownNode)) fallen

pub learns_yes_down : (s : World) (c : State) → Represents s c → Holds s → (p : NodeId) → IsTrue (is_node s.scene p) → IsDown s p
    → settled (store_reads s (Learn p)).verdict ≡ Some true → Refines s (Learn p) promote_down_plan c
unfolding carried to
learns_yes_down s c is h p there down verdict = record {
  next = c;
  run = nothing_done;
  fresh = inl tt;
  stands = leads-represents s (Learn p) plan c c is (record {
    nodes = λ q.
        let X : Node → Type 0 = λ x. NodeIn s.scene s.history (content_after p plan.write s.content) q (node (applied s (Learn p) plan) q) x in
        subst X (sym (at-same o c.node (node_index q)))
        (nodes-at s (Learn p) plan c (c.node o) is tt (λ r d. refl) (owner-in s (Learn p) plan (Some IsDownNode) (c.node o) fallen
        (dealt-with s.scene s.history p (log s.history p) _ (row_of s.content p) _ (c.node o) true is_v
        (subst Was fallen (is.nodes p)))) q);
    board = is.board;
    links = links-idle s (Learn p) plan c (λ x y e. absurd (cc (e))) (λ r near. refl);
    votes = λ k v i. i;
    cast = tt;
  });
} where
  plan : Plan
  plan = promote_down_plan

  o : ℕ
  o = node_index p

  fallen : node s p ≡ Some IsDownNode
  fallen = has_fallen s h.ready p there down

  is_v : verdict_on s.content (row_of s.content p).tentative ≡ Some (verdict_from true)
  is_v = sym (learnt-down s p fallen) ∙ settled-is (store_reads s (Learn p)).verdict true verdict

  Was : Option RealNode → Type 0
  Was r = NodeIn s.scene s.history s.content p r (c.node (node_index p))

pub learns_no_down : (s : World) (c : State) → Represents s c → Holds s → (p : NodeId) → IsTrue (is_node s.scene p) → IsDown s p
    → settled (store_reads s (Learn p)).verdict ≡ Some false → MayNote s.scene s.history p (discard_down_plan (view s p) (store_reads s (Learn p)).stored).note
    → Refines s (Learn p) (discard_down_plan (view s p) (store_reads s (Learn p)).stored) c
unfolding carried to
learns_no_down s c is h p there down verdict may = record {
  next = next;
  run = one_more nothing_done (fails o (none-held s c is p false is_v));
  fresh = inl (tt, tt);
  stands = leads-represents s (Learn p) plan c next is (record {
    nodes = nodes-at s (Learn p) plan c new is may (λ r d. refl) (owner-in s (Learn p) plan (Some IsDownNode) new fallen
        (dealt-with s.scene _ p _ _ row _ new false is_v (fallen-is s c is p keep none same)));
    board = is.board;
    links = links-idle s (Learn p) plan c (λ x y e. absurd (cc (e))) (λ r near. refl);
    votes = votes-at c o new (λ v i. i);
    cast = tt;
  });
} where
  plan : Plan
  plan = discard_down_plan (view s p) (store_reads s (Learn p)).stored

  o : ℕ
  o = node_index p

  row : NodeRow
  row = row_of s.content p

  keep : ℕ
  keep = acts_in (option_map header_of (row_of s.content p).permanent)

  new : Node
  new = falling (cutting (c.node o))

  next : State
  next = change o (λ x. falling (cutting x)) c

  fallen : node s p ≡ Some IsDownNode
  fallen = has_fallen s h.ready p there down

  is_v : verdict_on s.content (row_of s.content p).tentative ≡ Some (verdict_from false)
  is_v = sym (learnt-down s p fallen) ∙ settled-is (store_reads s (Learn p)).verdict false verdict

  none : Rattle.kt_refinement.proofs.Represents.undecided (verdict_on s.content row.tentative) row.tentative ≡ None
  none = ap (λ (v : Option RealVerdict). Rattle.kt_refinement.proofs.Represents.undecided v row.tentative) is_v ∙ undecided-none false row.tentative

  same : keep ≡ acts_held (permanent_by (verdict_on s.content row.tentative) row.tentative row.permanent)
  same = held_header row.permanent
      ∙ ap acts_held (sym (ap (λ (v : Option RealVerdict). permanent_by v row.tentative row.permanent) is_v ∙ permanent-left false row.tentative row.permanent))
