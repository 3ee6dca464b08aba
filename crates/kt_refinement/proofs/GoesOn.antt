-- A participant of a rollback that got No goes on where it was: the machine learns No.
-- Cited by Refining.
use Rattle.std.proofs.Common.{◌≡◌, ℕ, false, List, [], Some, refl, sym, ap, subst, ◌∙◌, inl}
use Rattle.std.specs.List.{AllByRecursion}
use Rattle.std.specs.Option.{option_map}
use Rattle.kt_tuple.specs.declared.node.NodeId.{NodeId}
use Rattle.kt_tuple.specs.Node.{node_index}
use Rattle.kt_store.specs.declared.rows.Verdict.TheVariants as verdicts
use Rattle.kt_store.specs.Content.{verdict_of}
use Rattle.kt_vote.specs.declared.asker.Asker.{Asker}
use Rattle.kt_vote.specs.Poll.{Poll}
use Rattle.kt_state.specs.declared.message.Message.{Message as RealMessage}
use Rattle.kt_state.specs.declared.message.Message.TheVariants as messages
use Rattle.kt_state.specs.declared.live.Phase.TheVariants as phases
use Rattle.kt_state.specs.Node.{Live, Alive}
use Rattle.kt_node.specs.Learning.{release_plan, verdict_to}
use Rattle.kt_node.specs.Deciding.{settled}
use Rattle.kt_scenario.specs.declared.step.Step.{Step}
use Rattle.kt_scenario.specs.declared.step.Step.TheVariants.{Deliver, Learn}
use Rattle.kt_scenario.specs.Step.{owner}
use Rattle.kt_model.specs.State.{State as World}
use Rattle.kt_model.specs.StoreReads.{store_reads}
use Rattle.kt_model.proofs.Shared.{IsAlive, Comes, comes-boards, settled-is, Holds}
use Rattle.kt_protocol.specs.Machine.{Rollback, Up, Node, State}
use Rattle.kt_protocol.specs.Steps.{rising, learns_no, change}
use Rattle.kt_protocol.specs.Runs.{nothing_done, one_more}
use Rattle.kt_protocol.proofs.Shared.{at-here, Invariant}
use Rattle.kt_refinement.proofs.Numbers.{peers}
use Rattle.kt_refinement.proofs.Represents.{carried, asker_key, Represents}
use Rattle.kt_refinement.proofs.Links.{to}
use Rattle.kt_refinement.proofs.Frames.{links-idle, CastSo, LinksLead, Refines, owner-in, nodes-at, votes-at, leads-represents}
use Rattle.kt_refinement.proofs.Silence.{links-silent}
use Rattle.kt_refinement.proofs.Known.{alive-is, rolling-is, voting-begun, rollback-verdict}
use Rattle.kt_refinement.proofs.RollsBack.{learnt-of, verdicts-silent, verdicts-cast}
use Rattle.kt_refinement.proofs.Voting.{phase-updated}

-- whether the verdict comes or is looked up
goes-on : (s : World) (c : State) → Invariant (peers s.scene) c → Represents s c → (step : Step) (n : Live) (b : Poll) (parent : Asker)
    (send : List (NodeId × RealMessage))
    → IsAlive s (owner step) n → n.phase ≡ phases.Rolling b → b.parent ≡ Some parent → verdict_of s.content b.instance ≡ Some verdicts.No
    → LinksLead s step (release_plan send) c c.link → AllByRecursion (CastSo (c.node (node_index (owner step))).votes) send
    → Refines s step (release_plan send) c
goes-on s c inv is step n b parent send alive rolling has decided links cast =
    let plan = release_plan send in
    let p = owner step in
    let o = node_index (owner step) in
    let votes = rolling-is s c is p n b alive rolling in
    let begun = voting-begun (peers s.scene) c inv o (Rollback b.instance) votes.ballot votes.within in
    let new : Node = rising (c.node o) in
    let next : State = change o rising c in
    record {
      next = next;
      run = one_more nothing_done
          (learns_no o b.instance votes.ballot (asker_key parent) votes.within (votes.is.parent ∙ ap (option_map asker_key) has)
          (rollback-verdict s c is b.instance verdicts.No begun decided));
      fresh = inl (tt, tt);
      stands = leads-represents s step plan c next is (record {
        nodes = nodes-at s step plan c new is tt (λ r d. refl) (owner-in s step plan (Some (Alive n)) new alive
            (phase-updated s p n (c.node o) phases.Up Up (c.node o).votes (c.node o).said (alive-is s c is p n alive) refl));
        board = is.board;
        links = links;
        votes = votes-at c o new (λ v i. i);
        cast = subst (λ (x : Node). AllByRecursion (CastSo x.votes) send) (sym (at-here o new c.node)) cast;
      });
    }

pub told_to_go_on : (s : World) (c : State) → Invariant (peers s.scene) c → Represents s c → Holds s → (p q : NodeId) (n : Live) (b : Poll) (parent : Asker)
    (instance : ℕ)
    → Comes s p q (messages.Verdict instance false) → IsAlive s q n → n.phase ≡ phases.Rolling b → b.parent ≡ Some parent → b.instance ≡ instance
    → Refines s (Deliver p q) (release_plan (verdict_to instance false b.asked)) c
told_to_go_on s c inv is h p q n b parent instance comes alive rolling has same =
    goes-on s c inv is (Deliver p q) n b parent (verdict_to instance false b.asked) alive rolling has
    (ap (verdict_of s.content) same ∙ comes-boards s h.backed p q (messages.Verdict instance false) comes)
    (links-silent s p q _ c (messages.Verdict instance false) is comes refl (verdicts-silent instance false b.asked))
    (verdicts-cast _ instance false b.asked)

pub learns_to_go_on : (s : World) (c : State) → Invariant (peers s.scene) c → Represents s c → (p : NodeId) (n : Live) (b : Poll) (parent : Asker)
    → IsAlive s p n → n.phase ≡ phases.Rolling b → b.parent ≡ Some parent → settled (store_reads s (Learn p)).verdict ≡ Some false
    → Refines s (Learn p) (release_plan []) c
unfolding carried to
learns_to_go_on s c inv is p n b parent alive rolling has verdict =
    goes-on s c inv is (Learn p) n b parent [] alive rolling has
    (sym (learnt-of s p n b alive rolling) ∙ settled-is (store_reads s (Learn p)).verdict false verdict)
    (links-idle s (Learn p) _ c (λ x y e. absurd (cc (e))) (λ r near. refl)) tt
