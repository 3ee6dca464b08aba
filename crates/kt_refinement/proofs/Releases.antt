-- A held node learns its check's verdict: the machine releases it, and what is stored of it is then what it stood for
-- since the verdict was written.
-- Cited by LearnsDown, Refining.
use Rattle.std.proofs.Common.{◌≡◌, ℕ, Bool, true, false, List, [], Option, Some, None, refl, sym, ap, subst, ◌∙◌, inl}
use Rattle.std.specs.List.{AllByRecursion}
use Rattle.kt_tuple.specs.declared.node.NodeId.{NodeId}
use Rattle.kt_tuple.specs.Node.{node_index}
use Rattle.kt_history.specs.declared.note.Note.{Note}
use Rattle.kt_history.specs.Log.{log}
use Rattle.kt_ckpt.specs.declared.ckpt.Ckpt.{Ckpt}
use Rattle.kt_store.specs.declared.rows.NodeRow.{NodeRow}
use Rattle.kt_store.specs.declared.rows.Tentative.{Tentative}
use Rattle.kt_store.specs.declared.rows.Verdict.{Verdict as RealVerdict}
use Rattle.kt_store.specs.Verdict.{verdict_from}
use Rattle.kt_store.specs.Changes.{promoted_from}
use Rattle.kt_store.specs.Content.{row_of, verdict_of, verdict_on}
use Rattle.kt_vote.specs.Poll.{Poll}
use Rattle.kt_state.specs.declared.message.Message.{Message as RealMessage}
use Rattle.kt_state.specs.declared.message.Message.TheVariants as messages
use Rattle.kt_state.specs.declared.live.Phase.{Phase}
use Rattle.kt_state.specs.declared.live.Phase.TheVariants as phases
use Rattle.kt_state.specs.Node.{Node as RealNode, Live, Alive, poll_in}
use Rattle.kt_state.specs.Updating.{no_update}
use Rattle.kt_state.specs.Updating.{updated}
use Rattle.kt_node.specs.Learning.{held_learns, verdict_to}
use Rattle.kt_node.specs.Deciding.{settled}
use Rattle.kt_scenario.specs.declared.step.Step.{Step}
use Rattle.kt_scenario.specs.declared.step.Step.TheVariants.{Deliver, Learn}
use Rattle.kt_scenario.specs.Step.{owner}
use Rattle.kt_model.specs.auxiliary.Backed.{IsTakenIn}
use Rattle.kt_scenario.specs.Scene.{SceneModel}
use Rattle.kt_model.specs.Cut.{permanent_by}
use Rattle.kt_model.specs.State.{State as World}
use Rattle.kt_model.specs.StoreReads.{store_reads, of_poll}
use Rattle.kt_model.proofs.Shared.{IsAlive, Comes, backed-in, comes-boards, settled-is, learnt, Holds}
use Rattle.kt_protocol.specs.Labels.{UpTo}
use Rattle.kt_protocol.specs.Machine.{Node, State}
use Rattle.kt_protocol.specs.Steps.{rising, releases, change}
use Rattle.kt_protocol.specs.Runs.{nothing_done, one_more}
use Rattle.kt_protocol.proofs.Shared.{at-here, UpTo-refl}
use Rattle.kt_refinement.proofs.Represents.{carried, NodeIs, NodeIn, Stands, TentativeIs, undecided, Represents}
use Rattle.kt_refinement.proofs.Links.{to}
use Rattle.kt_refinement.proofs.Frames.{links-idle, CastSo, LinksLead, Refines, owner-in, nodes-at, votes-at, leads-represents}
use Rattle.kt_refinement.proofs.Silence.{links-silent}
use Rattle.kt_refinement.proofs.Known.{alive-is, held-is}
use Rattle.kt_refinement.proofs.RollsBack.{verdicts-silent, verdicts-cast}

-- ---- what is stored

-- a check that is decided leaves nothing tentative
pub undecided-none : (agreed : Bool) (t : Option Tentative) → undecided (Some (verdict_from agreed)) t ≡ None
undecided-none agreed None = refl
undecided-none true (Some t) = refl
undecided-none false (Some t) = refl

-- what a verdict makes permanent is what counts as permanent since it was written
abbrev pub left_permanent : Bool → Option Ckpt → Option Tentative → Option Ckpt
left_permanent true permanent t = promoted_from permanent t
left_permanent false permanent t = permanent

pub permanent-left : (agreed : Bool) (t : Option Tentative) (permanent : Option Ckpt)
    → permanent_by (Some (verdict_from agreed)) t permanent ≡ left_permanent agreed permanent t
permanent-left true None permanent = refl
permanent-left true (Some t) permanent = refl
permanent-left false None permanent = refl
permanent-left false (Some t) permanent = refl

-- the row whose tentative checkpoint is dealt with stands for what it stood for
pub dealt-with : (scene : SceneModel) (h : List Note) (p : NodeId) (numbers : List ℕ) (real : Option RealNode) (row : NodeRow) (v : Option RealVerdict)
    (x : Node)
    (agreed : Bool) → v ≡ Some (verdict_from agreed) → NodeIs scene h p numbers real row v x
    → NodeIs scene h p numbers real (record row { permanent = left_permanent agreed row.permanent row.tentative; tentative = None }) None x
dealt-with scene h p numbers real row v x agreed is_v was = record {
  log = was.log;
  life = was.life;
  state = was.state;
  perm = left;
  tent = subst Tent (ap (λ o. undecided o row.tentative) is_v ∙ undecided-none agreed row.tentative) was.tent;
  lower = λ q near. subst (UpTo _) (left.sent q near) (UpTo-refl _);
} where
  Tent : Option Tentative → Type 0
  Tent t = TentativeIs scene h p numbers t x.tent x.log

  left : Stands scene h p numbers (left_permanent agreed row.permanent row.tentative) x.perm
  left =
      let P : Option Ckpt → Type 0 = λ o. Stands scene h p numbers o x.perm in
      subst P (ap (λ o. permanent_by o row.tentative row.permanent) is_v ∙ permanent-left agreed row.tentative row.permanent) was.perm

-- nothing tentative is left in the machine
pub none-held : (s : World) (c : State) → Represents s c → (p : NodeId) (agreed : Bool)
    → verdict_on s.content (row_of s.content p).tentative ≡ Some (verdict_from agreed) → (c.node (node_index p)).tent ≡ None
none-held s c is p agreed is_v =
    let t = (row_of s.content p).tentative in
    let Tent : Option Tentative → Type 0 =
    λ o. TentativeIs s.scene s.history p (log s.history p) o (c.node (node_index p)).tent (c.node (node_index p)).log in
    subst Tent (ap (λ o. undecided o t) is_v ∙ undecided-none agreed t) (is.nodes p).tent

-- ---- the node

-- it is up
pub risen : (scene : SceneModel) (h : List Note) (p : NodeId) (numbers : List ℕ) (n : Live) (row : NodeRow) (v : Option RealVerdict) (x : Node)
    (promoted : Bool)
    → NodeIs scene h p numbers (Some (Alive n)) row v x
    → NodeIs scene h p numbers (Some (Alive (updated record no_update { promoted = promoted; phase = Some phases.Up } n))) row v (rising x)
risen scene h p numbers n row v x promoted was = record {
  log = was.log;
  life = was.life;
  state = record {
    phase = refl;
    life = was.state.life;
    count = was.state.count;
    sent = was.state.sent;
    received = was.state.received;
    kept = was.state.kept;
  };
  perm = was.perm;
  tent = was.tent;
  lower = was.lower;
}

-- ---- the leaf, whether the verdict comes or is looked up

releases-so : (s : World) (c : State) → Represents s c → Holds s → (step : Step) (n : Live) (b : Poll) (agreed : Bool) (send : List (NodeId × RealMessage))
    → IsAlive s (owner step) n → n.phase ≡ phases.Held b → verdict_of s.content b.instance ≡ Some (verdict_from agreed)
    → LinksLead s step (held_learns agreed send) c c.link → AllByRecursion (CastSo (c.node (node_index (owner step))).votes) send
    → Refines s step (held_learns agreed send) c
releases-so s c is h step n b agreed send alive held decided links cast = by agreed is_v links where
  p : NodeId
  p = owner step

  o : ℕ
  o = node_index p

  taken : IsTakenIn b.instance (row_of s.content p).tentative
  taken = backed-in s h.backed p n (phases.Held b) alive held

  is_v : verdict_on s.content (row_of s.content p).tentative ≡ Some (verdict_from agreed)
  is_v = ap (verdict_on s.content) taken.is_stored ∙ ap (verdict_of s.content) taken.is_of ∙ decided

  new : Node
  new = rising (c.node o)

  next : State
  next = change o rising c

  was : NodeIn s.scene s.history s.content p (Some (Alive n)) (c.node o)
  was = alive-is s c is p n alive

  says : AllByRecursion (CastSo (next.node o).votes) send
  says = subst (λ (x : Node). AllByRecursion (CastSo x.votes) send) (sym (at-here o new c.node)) cast

  by : (agreed : Bool) → verdict_on s.content (row_of s.content p).tentative ≡ Some (verdict_from agreed)
      → LinksLead s step (held_learns agreed send) c c.link → Refines s step (held_learns agreed send) c
  by true is_v links =
      let plan = held_learns true send in
      let votes = held-is s c is p n b alive held in record {
        next = next;
        run = one_more nothing_done (releases o b.instance votes.ballot votes.within (none-held s c is p true is_v));
        fresh = inl (tt, tt);
        stands = leads-represents s step plan c next is (record {
          nodes = nodes-at s step plan c new is tt (λ r d. refl) (owner-in s step plan (Some (Alive n)) new alive
              (dealt-with s.scene s.history p (log s.history p) _ (row_of s.content p) _ new true is_v
              (risen s.scene s.history p (log s.history p) n (row_of s.content p) _ (c.node o) true was)));
          board = is.board;
          links = links;
          votes = votes-at c o new (λ v i. i);
          cast = says;
        });
      }
  by false is_v links =
      let plan = held_learns false send in
      let votes = held-is s c is p n b alive held in record {
        next = next;
        run = one_more nothing_done (releases o b.instance votes.ballot votes.within (none-held s c is p false is_v));
        fresh = inl (tt, tt);
        stands = leads-represents s step plan c next is (record {
          nodes = nodes-at s step plan c new is tt (λ r d. refl) (owner-in s step plan (Some (Alive n)) new alive
              (dealt-with s.scene s.history p (log s.history p) _ (row_of s.content p) _ new false is_v
              (risen s.scene s.history p (log s.history p) n (row_of s.content p) _ (c.node o) false was)));
          board = is.board;
          links = links;
          votes = votes-at c o new (λ v i. i);
          cast = says;
        });
      }

-- what is sent is the same for both verdicts
held-links : (s : World) (step : Step) (c : State) (agreed : Bool) (send : List (NodeId × RealMessage))
    → ((plan : Rattle.kt_state.specs.declared.plan.Plan.Plan) → plan.send ≡ send → LinksLead s step plan c c.link)
    → LinksLead s step (held_learns agreed send) c c.link
held-links s step c true send links = links (held_learns true send) refl
held-links s step c false send links = links (held_learns false send) refl

pub told_when_held : (s : World) (c : State) → Represents s c → Holds s → (p q : NodeId) (n : Live) (b : Poll) (instance : ℕ) (agreed : Bool)
    → Comes s p q (messages.Verdict instance agreed) → IsAlive s q n → n.phase ≡ phases.Held b → b.instance ≡ instance
    → Refines s (Deliver p q) (held_learns agreed (verdict_to instance agreed b.asked)) c
told_when_held s c is h p q n b instance agreed comes alive held same =
    releases-so s c is h (Deliver p q) n b agreed (verdict_to instance agreed b.asked) alive held
    (ap (verdict_of s.content) same ∙ comes-boards s h.backed p q (messages.Verdict instance agreed) comes)
    (held-links s (Deliver p q) c agreed (verdict_to instance agreed b.asked) (λ plan e.
    links-silent s p q plan c (messages.Verdict instance agreed) is comes refl
    (subst (AllByRecursion Rattle.kt_refinement.proofs.Silence.IsSilent) (sym e) (verdicts-silent instance agreed b.asked))))
    (verdicts-cast _ instance agreed b.asked)

pub learns_when_held : (s : World) (c : State) → Represents s c → Holds s → (p : NodeId) (n : Live) (b : Poll) (agreed : Bool)
    → IsAlive s p n → n.phase ≡ phases.Held b → settled (store_reads s (Learn p)).verdict ≡ Some agreed
    → Refines s (Learn p) (held_learns agreed []) c
unfolding carried to
learns_when_held s c is h p n b agreed alive held verdict =
    releases-so s c is h (Learn p) n b agreed [] alive held
    (sym (learnt s p n alive ∙ ap (λ (x : Phase). of_poll s.content (poll_in x)) held) ∙ settled-is (store_reads s (Learn p)).verdict agreed verdict)
    (held-links s (Learn p) c agreed [] (λ plan e.
    links-idle s (Learn p) plan c (λ x y f. absurd (cc (f))) (λ r near. ap (λ l. carried (to r l)) e)))
    tt
