-- The steps that write a verdict: who began an instance decides, or gives it up, alive or down.
-- Cited by Refining.
use Rattle.std.proofs.Common.{◌≡◌, ℕ, Bool, true, false, IsTrue, List, [], Option, Some, None, refl, sym, ap, subst, ◌∙◌}
use Rattle.std.specs.Prelude.{unwrap_or}
use Rattle.std.specs.Option.{option_map}
use Rattle.kt_tuple.specs.declared.node.NodeId.{NodeId}
use Rattle.kt_tuple.specs.Node.{node_index}
use Rattle.kt_store.specs.declared.rows.InstanceRow.{InstanceRow}
use Rattle.kt_store.specs.declared.rows.Purpose.{Purpose}
use Rattle.kt_store.specs.declared.rows.Purpose.TheVariants as purposes
use Rattle.kt_store.specs.Content.{instance_row, verdict_of}
use Rattle.kt_vote.specs.Poll.{Poll, outcome_of}
use Rattle.kt_state.specs.declared.live.Phase.{Phase}
use Rattle.kt_state.specs.declared.live.Phase.TheVariants as phases
use Rattle.kt_state.specs.declared.change.Change.TheVariants as changes
use Rattle.kt_state.specs.Node.{Node as RealNode, Live, Alive, Down as IsDownNode, poll_in}
use Rattle.kt_state.specs.Updating.{no_update}
use Rattle.kt_state.specs.Stored.{is_undecided}
use Rattle.kt_node.specs.Learning.{verdict_to}
use Rattle.kt_node.specs.Deciding.{decide_plan, no_plan}
use Rattle.kt_scenario.specs.declared.step.Step.{Step}
use Rattle.kt_scenario.specs.declared.step.Step.TheVariants.{Deliver, Decide, Abandon}
use Rattle.kt_scenario.specs.Step.{owner}
use Rattle.kt_model.specs.State.{State as World, node, view}
use Rattle.kt_model.specs.StoreReads.{store_reads, of_poll}
use Rattle.kt_model.proofs.Shared.{IsAlive, Votes as VotesSo, holds, rolls, Holds, open-verdict}
use Rattle.kt_protocol.specs.Machine.{Check, Rollback, State}
use Rattle.kt_protocol.proofs.Shared.{Invariant}
use Rattle.kt_refinement.proofs.Numbers.{peers}
use Rattle.kt_refinement.proofs.Represents.{begun_as, NodeIn, Represents}
use Rattle.kt_refinement.proofs.Frames.{LinksLead, Refines, links-idle}
use Rattle.kt_refinement.proofs.Silence.{silent-to}
use Rattle.kt_refinement.proofs.Known.{alive-is, rolling-is, held-is, voting-begun}
use Rattle.kt_refinement.proofs.RollsBack.{verdicts-silent}
use Rattle.kt_refinement.proofs.Decides.{deciding_plan, unturned-is, says_yes_check}
use Rattle.kt_refinement.proofs.Denies.{IsIdle, says_no_check, says_no_rollback, says_yes_rollback}

-- the verdict that a voter asks after
pub poll-verdict : (s : World) (p : NodeId) (n : Live) (b : Poll) (f : Phase) → IsAlive s p n → n.phase ≡ f → poll_in f ≡ Some b
    → of_poll s.content (Rattle.kt_state.specs.Node.poll_of (view s p).node) ≡ verdict_of s.content b.instance
poll-verdict s p n b f alive is votes =
    ap (λ r. of_poll s.content (Rattle.kt_state.specs.Node.poll_of (unwrap_or r IsDownNode))) alive ∙ ap (λ x. of_poll s.content (poll_in x)) is
    ∙ ap (of_poll s.content) votes

alive-idle : (s : World) (c : State) → Represents s c → (step : Step) (n : Live) → IsAlive s (owner step) n → IsIdle s step c (changes.Update no_update)
alive-idle s c is step n alive = record {
  was = Some (Alive n);
  is_was = alive;
  same = unturned-is s (owner step) n (c.node (node_index (owner step))) (alive-is s c is (owner step) n alive);
}

-- only verdicts are sent, and nothing comes
told-links : (s : World) (step : Step) (c : State) (change : Rattle.kt_state.specs.declared.change.Change.Change) (i : ℕ) (agreed : Bool) (asked : List NodeId)
    → ((x y : NodeId) → step ≡ Deliver x y → ⊥) → LinksLead s step (deciding_plan change (verdict_to i agreed asked) i agreed) c c.link
told-links s step c change i agreed asked none =
    links-idle s step (deciding_plan change (verdict_to i agreed asked) i agreed) c none (λ r near. silent-to r (verdict_to i agreed asked)
    (verdicts-silent i agreed asked))

pub decides : (s : World) (c : State) → Invariant (peers s.scene) c → Represents s c → (p : NodeId) (n : Live) (b : Poll) (phase : Poll → Phase) (agreed : Bool)
    → IsAlive s p n → VotesSo n.phase b phase → b.parent ≡ None → IsTrue (is_undecided (store_reads s (Decide p)).verdict) → outcome_of b ≡ Some agreed
    → Refines s (Decide p) (decide_plan n.phase b agreed) c
decides s c inv is p n b phase agreed alive votes began undecided outcome = by n.phase refl b phase agreed votes began outcome
    (λ f e g. subst (λ v. IsTrue (is_undecided v)) (poll-verdict s p n b f alive e g) undecided) where
      by : (f : Phase) → n.phase ≡ f → (b : Poll) (phase : Poll → Phase) (agreed : Bool) → VotesSo f b phase → b.parent ≡ None → outcome_of b ≡ Some agreed
          → ((f : Phase) → n.phase ≡ f → poll_in f ≡ Some b → IsTrue (is_undecided (verdict_of s.content b.instance)))
          → Refines s (Decide p) (decide_plan f b agreed) c
      by f e b phase true holds began outcome opened =
          says_yes_check s c inv is (Decide p) n b b.asked alive e began (opened (phases.Held b) e refl) outcome
          (told-links s (Decide p) c (changes.Update no_update) b.instance true b.asked (λ x y z. absurd (cc (z))))
      by f e b phase false holds began outcome opened =
          let votes = held-is s c is p n b alive e in
          says_no_check s c is (Decide p) (changes.Update no_update) b.instance b.asked (alive-idle s c is (Decide p) n alive)
          (voting-begun (peers s.scene) c inv (node_index p) (Check b.instance) votes.ballot votes.within) (opened (phases.Held b) e refl)
          (told-links s (Decide p) c (changes.Update no_update) b.instance false b.asked (λ x y z. absurd (cc (z))))
      by f e b phase true rolls began outcome opened =
          says_yes_rollback s c inv is (Decide p) n b b.asked alive e began (opened (phases.Rolling b) e refl) outcome
          (told-links s (Decide p) c (Rattle.kt_state.specs.Updating.updating_to phases.Up) b.instance true b.asked (λ x y z. absurd (cc (z))))
      by f e b phase false rolls began outcome opened =
          let votes = rolling-is s c is p n b alive e in
          says_no_rollback s c inv is (Decide p) (changes.Update no_update) b.instance b.asked (alive-idle s c is (Decide p) n alive)
          (voting-begun (peers s.scene) c inv (node_index p) (Rollback b.instance) votes.ballot votes.within) (opened (phases.Rolling b) e refl)
          (told-links s (Decide p) c (changes.Update no_update) b.instance false b.asked (λ x y z. absurd (cc (z))))

pub gives_up : (s : World) (c : State) → Invariant (peers s.scene) c → Represents s c → (p : NodeId) (n : Live) (b : Poll) (phase : Poll → Phase)
    → IsAlive s p n → VotesSo n.phase b phase → IsTrue (is_undecided (store_reads s (Abandon p)).verdict)
    → Refines s (Abandon p) (no_plan (changes.Update no_update) b.instance b.asked) c
gives_up s c inv is p n b phase alive votes undecided = by n.phase refl b phase votes
    (λ f e g. subst (λ v. IsTrue (is_undecided v)) (poll-verdict s p n b f alive e g) undecided) where
      by : (f : Phase) → n.phase ≡ f → (b : Poll) (phase : Poll → Phase) → VotesSo f b phase
          → ((f : Phase) → n.phase ≡ f → poll_in f ≡ Some b → IsTrue (is_undecided (verdict_of s.content b.instance)))
          → Refines s (Abandon p) (no_plan (changes.Update no_update) b.instance b.asked) c
      by f e b phase holds opened =
          let votes = held-is s c is p n b alive e in
          says_no_check s c is (Abandon p) (changes.Update no_update) b.instance b.asked (alive-idle s c is (Abandon p) n alive)
          (voting-begun (peers s.scene) c inv (node_index p) (Check b.instance) votes.ballot votes.within) (opened (phases.Held b) e refl)
          (told-links s (Abandon p) c (changes.Update no_update) b.instance false b.asked (λ x y z. absurd (cc (z))))
      by f e b phase rolls opened =
          let votes = rolling-is s c is p n b alive e in
          says_no_rollback s c inv is (Abandon p) (changes.Update no_update) b.instance b.asked (alive-idle s c is (Abandon p) n alive)
          (voting-begun (peers s.scene) c inv (node_index p) (Rollback b.instance) votes.ballot votes.within) (opened (phases.Rolling b) e refl)
          (told-links s (Abandon p) c (changes.Update no_update) b.instance false b.asked (λ x y z. absurd (cc (z))))

-- what an instance on the board is for
data IsFor (c : State) (i : ℕ) : Type 0 where
  a_check : c.board.begun (Check i) ≡ true → IsFor c i
  a_rollback : c.board.begun (Rollback i) ≡ true → IsFor c i

is-for : (s : World) (c : State) → Represents s c → (i : ℕ) → IsTrue (is_undecided (verdict_of s.content i)) → IsFor c i
is-for s c is i undecided = by (instance_row s.content i) refl undecided where
  row : (r : InstanceRow) → instance_row s.content i ≡ Some r → (purpose : Purpose) → r.purpose ≡ purpose → IsFor c i
  row r e purposes.Check f = a_check ((is.board i).check_begun ∙ ap (begun_as purposes.Check) e ∙ rw f refl)
  row r e purposes.Rollback f = a_rollback ((is.board i).rollback_begun ∙ ap (begun_as purposes.Rollback) e ∙ rw f refl)

  by : (o : Option InstanceRow) → instance_row s.content i ≡ o → IsTrue (is_undecided (option_map (λ (r : InstanceRow). r.verdict) o)) → IsFor c i
  by None e undecided = absurd (cc (undecided))
  by (Some r) e undecided = row r e r.purpose refl

unchanged : (r : Option RealNode) → option_map (Rattle.kt_state.specs.Updating.changed changes.Stay) r ≡ r
unchanged None = refl
unchanged (Some x) = refl

pub gives_up_down : (s : World) (c : State) → Invariant (peers s.scene) c → Represents s c → Holds s → (p : NodeId) (i : ℕ)
    → (store_reads s (Abandon p)).undecided ≡ Some i → Refines s (Abandon p) (no_plan changes.Stay i []) c
gives_up_down s c inv is h p i undecided = by (is-for s c is i opened) where
  opened : IsTrue (is_undecided (verdict_of s.content i))
  opened = subst (λ v. IsTrue (is_undecided v)) (sym (open-verdict s.content p i h.backed.board undecided)) refl

  idle : IsIdle s (Abandon p) c changes.Stay
  idle = record {
    was = node s p;
    is_was = refl;
    same = subst (λ r. NodeIn s.scene s.history s.content p r (c.node (node_index p))) (sym (unchanged (node s p))) (is.nodes p);
  }

  by : IsFor c i → Refines s (Abandon p) (no_plan changes.Stay i []) c
  by (a_check begun) = says_no_check s c is (Abandon p) changes.Stay i [] idle begun opened (told-links s (Abandon p) c changes.Stay i false []
      (λ x y z. absurd (cc (z))))
  by (a_rollback begun) =
      says_no_rollback s c inv is (Abandon p) changes.Stay i [] idle begun opened (told-links s (Abandon p) c changes.Stay i false [] (λ x y z. absurd (cc
      (z))))
