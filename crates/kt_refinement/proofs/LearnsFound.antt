-- A node that is down learns what became of a tentative checkpoint that was found of it: of that the settled world has
-- nothing any more, so the machine does nothing, or fails once more, which leaves it as it is.
-- Cited by Resuming.
use Rattle.std.proofs.Common.{◌≡◌, ℕ, [], Option, Some, None, refl, sym, ap, subst, ◌∙◌, inl, inr}
use Rattle.std.specs.Option.{option_map}
use Rattle.kt_tuple.specs.declared.node.NodeId.{NodeId}
use Rattle.kt_tuple.specs.Node.{node_index}
use Rattle.kt_history.specs.Log.{log}
use Rattle.kt_ckpt.specs.declared.ckpt.Ckpt.{Ckpt}
use Rattle.kt_ckpt.specs.Header.{header_of}
use Rattle.kt_store.specs.declared.rows.NodeRow.{NodeRow}
use Rattle.kt_store.specs.declared.rows.Tentative.{Tentative}
use Rattle.kt_store.specs.declared.rows.Verdict.{Verdict as RealVerdict}
use Rattle.kt_store.specs.declared.rows.Verdict.TheVariants as verdicts
use Rattle.kt_store.specs.Content.{row_of, verdict_on}
use Rattle.kt_state.specs.declared.change.Change.TheVariants as changes
use Rattle.kt_state.specs.declared.plan.Plan.{Plan}
use Rattle.kt_state.specs.declared.plan.Write.TheVariants as writes
use Rattle.kt_state.specs.Node.{Node as RealNode, Down as IsDownNode}
use Rattle.kt_state.specs.Stored.{acts_in}
use Rattle.kt_node.specs.Learning.{discard_down_plan}
use Rattle.kt_scenario.specs.declared.step.Step.{Step}
use Rattle.kt_scenario.specs.declared.step.Step.TheVariants.{Learn}
use Rattle.kt_model.specs.Cut.{acts_held, permanent_by}
use Rattle.kt_model.specs.State.{State as World, node, view}
use Rattle.kt_model.specs.StoreReads.{stored_of}
use Rattle.kt_model.specs.Effect.{applied}
use Rattle.kt_model.specs.Writing.{content_after}
use Rattle.kt_model.proofs.Shared.{held_header, has_fallen, MayNote, Kept, Learns, kept-holds, is-quiet, found-bare, settled}
use Rattle.kt_protocol.specs.Machine.{Node, State}
use Rattle.kt_protocol.specs.Steps.{falling, cutting, fails, change}
use Rattle.kt_protocol.specs.Runs.{nothing_done, one_more}
use Rattle.kt_protocol.proofs.Shared.{at-same, reached-run}
use Rattle.kt_refinement.proofs.Represents.{carried, NodeIs, NodeIn, TentativeIs, undecided, Represents}
use Rattle.kt_refinement.proofs.Links.{to}
use Rattle.kt_refinement.proofs.Frames.{Refines, owner-in, nodes-at, votes-at, links-idle, leads-represents}
use Rattle.kt_refinement.proofs.Falling.{fallen-is}
use Rattle.kt_refinement.proofs.Letters.{letters-through}
use Rattle.kt_refinement.proofs.Refined.{StandsFor, peers-are, stands-invariant}

-- a row with nothing tentative, of which the tentative is given up
bare-row : (row : NodeRow) → row.tentative ≡ None → row ≡ record row { tentative = None }
bare-row row e = ap (λ (t : Option Tentative). record row { tentative = t }) e

abbrev quiet_plan : Plan
quiet_plan = record { change = changes.Stay; send = []; note = None; write = Some writes.Discard }

quietly : (s : World) (c : State) → Represents s c → (p : NodeId) → node s p ≡ Some IsDownNode → (row_of s.content p).tentative ≡ None
    → Refines s (Learn p) quiet_plan c
unfolding carried to
quietly s c is p fallen bare = record {
  next = c;
  run = nothing_done;
  fresh = inl tt;
  stands = leads-represents s (Learn p) quiet_plan c c is (record {
    nodes = λ q.
        let X : Node → Type 0 = λ x. NodeIn s.scene s.history (content_after p quiet_plan.write s.content) q (node (applied s (Learn p) quiet_plan) q) x in
        subst X (sym (at-same o c.node (node_index q)))
        (nodes-at s (Learn p) quiet_plan c (c.node o) is tt (λ r d. refl) (owner-in s (Learn p) quiet_plan (Some IsDownNode) (c.node o) fallen
        (subst Row (bare-row (row_of s.content p) bare) (subst Was fallen (is.nodes p)))) q);
    board = is.board;
    links = links-idle s (Learn p) quiet_plan c (λ x y e. absurd (cc (e))) (λ r near. refl);
    votes = λ k v i. i;
    cast = tt;
  });
} where
  o : ℕ
  o = node_index p

  Was : Option RealNode → Type 0
  Was r = NodeIn s.scene s.history s.content p r (c.node (node_index p))

  Row : NodeRow → Type 0
  Row r = NodeIs s.scene s.history p (log s.history p) (Some IsDownNode) r (verdict_on s.content r.tentative) (c.node (node_index p))

-- what the permanent one is where nothing tentative is
by-none : (v : Option RealVerdict) (x : Option Ckpt) → permanent_by v None x ≡ x
by-none None x = refl
by-none (Some verdicts.Open) x = refl
by-none (Some verdicts.Yes) x = refl
by-none (Some verdicts.No) x = refl

cut-again : (s : World) (c : State) → Represents s c → (p : NodeId) → node s p ≡ Some IsDownNode → (row_of s.content p).tentative ≡ None
    → MayNote s.scene s.history p (discard_down_plan (view s p) (stored_of s.content p)).note
    → Refines s (Learn p) (discard_down_plan (view s p) (stored_of s.content p)) c
unfolding carried to
cut-again s c is p fallen bare may = record {
  next = next;
  run = one_more nothing_done (fails o none-held);
  fresh = inl (tt, tt);
  stands = leads-represents s (Learn p) plan c next is (record {
    nodes = nodes-at s (Learn p) plan c new is may (λ r d. refl) (owner-in s (Learn p) plan (Some IsDownNode) new fallen
        (subst Row (bare-row (row_of s.content p) bare) (fallen-is s c is p keep none same)));
    board = is.board;
    links = links-idle s (Learn p) plan c (λ x y e. absurd (cc (e))) (λ r near. refl);
    votes = votes-at c o new (λ v i. i);
    cast = tt;
  });
} where
  plan : Plan
  plan = discard_down_plan (view s p) (stored_of s.content p)

  o : ℕ
  o = node_index p

  row : NodeRow
  row = row_of s.content p

  keep : ℕ
  keep = acts_in (option_map header_of (row_of s.content p).permanent)

  new : Node
  new = falling (cutting (c.node o))

  next : State
  next = change o (λ x. falling (cutting x)) c

  none : undecided (verdict_on s.content row.tentative) row.tentative ≡ None
  none = ap (λ (t : Option Tentative). undecided (verdict_on s.content t) t) bare

  none-held : (c.node o).tent ≡ None
  none-held =
      let T : Option Tentative → Type 0 = λ t. TentativeIs s.scene s.history p (log s.history p) t (c.node o).tent (c.node o).log in
      subst T none (is.nodes p).tent

  same : keep ≡ acts_held (permanent_by (verdict_on s.content row.tentative) row.tentative row.permanent)
  same = held_header row.permanent
      ∙ ap acts_held (sym (ap (λ (t : Option Tentative). permanent_by (verdict_on s.content t) t row.permanent) bare ∙ by-none None row.permanent))

  Row : NodeRow → Type 0
  Row r = NodeIs s.scene (Rattle.kt_model.specs.Effect.noted s.history plan.note) p (log (Rattle.kt_model.specs.Effect.noted s.history plan.note) p)
      (Some IsDownNode) r (verdict_on s.content r.tentative) new

refined-stands : (s : World) (f : StandsFor s) (step : Step) (plan : Plan) → Refines s step plan f.state → StandsFor (applied s step plan)
refined-stands s f step plan next = record {
  state = next.next;
  reached = reached-run f.reached next.run;
  stands = next.stands;
  letters = letters-through (peers-are s.scene) (stands-invariant s f) s.history plan.note f.letters next.run next.fresh;
}

pub quiet-stands : (s : World) → Kept s → (step : Step) (plan : Plan) → (x : Learns s step plan) → StandsFor (settled s)
    → StandsFor (applied (settled s) step x.quiet)
quiet-stands s k step plan x f =
    let h = kept-holds s k in
    let bare = found-bare s x.node x.found in
    let fallen = has_fallen (settled s) h.ready x.node x.there x.down in
    let may = (is-quiet s k step plan x).keeps.may in
    let May : Plan → Type 0 = λ q. MayNote s.scene s.history x.node q.note in
    let S : Plan → Type 0 = λ q. StandsFor (applied (settled s) (Learn x.node) q) in
    subst (λ t. StandsFor (applied (settled s) t x.quiet)) (sym x.is_learn) (elim x.kind [
      | inl e ↦ subst S (sym e) (refined-stands (settled s) f (Learn x.node) quiet_plan (quietly (settled s) f.state f.stands x.node fallen bare))
      | inr e ↦ subst S (sym e) (refined-stands (settled s) f (Learn x.node) (discard_down_plan (view s x.node) (stored_of (settled s).content x.node))
          (cut-again (settled s) f.state f.stands x.node fallen bare (subst May e may)))
    ])
