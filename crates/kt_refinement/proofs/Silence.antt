-- Votes and verdicts are nothing to the machine's links.
-- Cited by Answering, CountsVote, Dropping, GoesOn, JoinsCheck, Releases, RollsBack, Verdicts, Voting.
use Rattle.std.proofs.Common.{◌≡◌, Bool, true, false, List, [], ◌∷◌, ◌++◌, drop}
use Rattle.std.proofs.Common.{refl, sym, ap, subst, ◌∙◌, append-nil}
use Rattle.std.specs.List.{AllByRecursion}
use Rattle.kt_tuple.specs.declared.node.NodeId.{NodeId}
use Rattle.kt_tuple.specs.Node.{node_index}
use Rattle.kt_state.specs.declared.message.Message.{Message as RealMessage}
use Rattle.kt_state.specs.declared.plan.Plan.{Plan}
use Rattle.kt_scenario.specs.declared.step.Step.TheVariants.{Deliver}
use Rattle.kt_model.specs.State.{State as World, link}
use Rattle.kt_model.proofs.Shared.{Comes}
use Rattle.kt_protocol.specs.Machine.{State}
use Rattle.kt_refinement.proofs.Represents.{carried_one, carried, Represents}
use Rattle.kt_refinement.proofs.Links.{to}
use Rattle.kt_refinement.proofs.Frames.{neighbours-apart, delivers-from, delivers-to, LinksLead}

-- ---- what is nothing to the machine

-- a vote or a verdict
abbrev pub IsSilent : NodeId × RealMessage → Type 0
IsSilent (q, m) = carried_one m ≡ []

pub silent-to : (q : NodeId) (send : List (NodeId × RealMessage)) → AllByRecursion IsSilent send → carried (to q send) ≡ []
unfolding carried to
silent-to q [] all = refl
silent-to q (m ∷ later) all = by (Rattle.kt_tuple.specs.Node.node_eq m.0 q) (silent-to q later all.1) where
  by : (b : Bool) → carried (to q later) ≡ [] → carried (Rattle.std.specs.Prelude.if◌then◌else◌ b (m.1 ∷ to q later) (to q later)) ≡ []
  by true rest = ap (λ l. l ++ carried (to q later)) all.0 ∙ rest
  by false rest = rest

-- a vote or a verdict comes, and what is sent is nothing to the machine
pub links-silent : (s : World) (p q : NodeId) (plan : Plan) (c : State) (m : RealMessage) → Represents s c → Comes s p q m → carried_one m ≡ []
    → AllByRecursion IsSilent plan.send → LinksLead s (Deliver p q) plan c c.link
unfolding carried
links-silent s p q plan c m is comes none silent =
    let d = neighbours-apart s.scene p q comes.neighbours in record {
      own = λ r near. sym (append-nil _) ∙ ap (λ l. c.link (node_index q) (node_index r) ++ l) (sym (silent-to r plan.send silent));
      taken = λ a b e near.
          let P : NodeId → Type 0 = λ z. c.link (node_index z) (node_index b) ≡ carried (drop 1 (link s z b)) in
          let Q : NodeId → Type 0 = λ z. c.link (node_index p) (node_index z) ≡ carried (drop 1 (link s p z)) in
          subst P (delivers-from p q a b e) (subst Q (delivers-to p q a b e)
          ((is.links p q comes.neighbours).carries ∙ ap carried comes.on ∙ ap (λ l. l ++ carried comes.later) none
          ∙ ap (λ l. carried (drop 1 l)) (sym comes.on)));
      others = λ a b near ne apart. refl;
      apart = λ a e f. d (delivers-from p q a q e ∙ sym f);
    }
