-- What is known of the machine's node where something is known of the real one.
-- Cited by Acted, Answering, BeginsCheck, Checking, CountsVote, Decides, Denies, Dropping, Forcing, GoesOn, Hearing,
--   Hears, JoinsCheck, JoinsRollback, Leaving, PutsBy, Releases, Restarts, RollsBack, Sending, Verdicts, Voting.
use Rattle.std.proofs.Common.{◌≡◌, ℕ, suc, zero, ◌≤◌, Bool, true, false, IsTrue, List, [], ◌∷◌}
use Rattle.std.proofs.Common.{◌++◌, map, filter, Option, Some, None, refl, sym, ap, subst, ◌∙◌, arith}
use Rattle.std.specs.Option.{option_map}
use Rattle.kt_tuple.specs.declared.node.NodeId.{NodeId}
use Rattle.kt_tuple.specs.Node.{node_index}
use Rattle.kt_store.specs.declared.rows.InstanceRow.{InstanceRow}
use Rattle.kt_store.specs.declared.rows.Purpose.{Purpose}
use Rattle.kt_store.specs.declared.rows.Purpose.TheVariants as purposes
use Rattle.kt_store.specs.declared.rows.Verdict.{Verdict as RealVerdict}
use Rattle.kt_store.specs.declared.rows.Verdict.TheVariants as verdicts
use Rattle.kt_store.specs.Content.{instance_row, verdict_of}
use Rattle.kt_state.specs.declared.live.Phase.{Phase}
use Rattle.kt_state.specs.declared.live.Phase.TheVariants as phases
use Rattle.kt_state.specs.declared.message.Message.{Message as RealMessage}
use Rattle.kt_state.specs.Labels.{numbers}
use Rattle.kt_state.specs.Node.{Alive, Live, across}
use Rattle.kt_state.specs.Stored.{is_undecided}
use Rattle.kt_vote.specs.Poll.{Poll, outcome_from}
use Rattle.kt_model.specs.State.{State as World}
use Rattle.kt_model.specs.auxiliary.Ready.{AreNeighbours}
use Rattle.kt_model.proofs.Shared.{IsAlive, Comes}
use Rattle.kt_protocol.specs.Machine.{Instance, Check, Rollback, Open, Ballot, Up, Within, State}
use Rattle.kt_protocol.proofs.Shared.{Invariant}
use Rattle.kt_refinement.proofs.Numbers.{peers, peers-of}
use Rattle.kt_refinement.proofs.Represents.{carried, carried_one, PhaseIs, Votes, NodeIn, verdict_is, verdict_as, begun_as, is_for, Represents}

-- an alive node is one of the machine
pub alive-is : (s : World) (c : State) → Represents s c → (p : NodeId) (n : Live) → IsAlive s p n
    → NodeIn s.scene s.history s.content p (Some (Alive n)) (c.node (node_index p))
alive-is s c is p n alive = subst (λ r. NodeIn s.scene s.history s.content p r (c.node (node_index p))) alive (is.nodes p)

pub up-is : (s : World) (c : State) → Represents s c → (p : NodeId) (n : Live) → IsAlive s p n → n.phase ≡ phases.Up → (c.node (node_index p)).mode ≡ Up
up-is s c is p n alive up =
    subst (λ (x : Phase). PhaseIs x (c.node (node_index p)).life (c.node (node_index p)).mode) up (alive-is s c is p n alive).state.phase

-- neighbours are the machine's
pub near-is : (s : World) (p q : NodeId) → AreNeighbours s.scene p q → IsTrue (peers s.scene (node_index p) (node_index q))
near-is s p q near = subst (λ b. IsTrue b) (sym (peers-of s.scene p q)) near

-- what comes stands at the front of the machine's link
pub comes-is : (s : World) (c : State) → Represents s c → (p q : NodeId) (m : RealMessage) → (comes : Comes s p q m)
    → c.link (node_index p) (node_index q) ≡ carried_one m ++ carried comes.later
unfolding carried
comes-is s c is p q m comes = (is.links p q comes.neighbours).carries ∙ ap carried comes.on

-- an instance that the board has as open is open, whatever it is for
opened-as : (purpose : Purpose) (o : Option InstanceRow) → IsTrue (is_undecided (Rattle.std.specs.Option.option_map (λ (row : InstanceRow). row.verdict) o))
    → verdict_as purpose o ≡ Open
opened-as purpose None t = absurd (cc (t))
opened-as purpose (Some row) t = by (is_for purpose row.purpose) row.verdict t where
  by : (b : Bool) (v : RealVerdict) → IsTrue (is_undecided (Some v))
      → (Rattle.std.specs.Prelude.if◌then◌else◌ b (Rattle.kt_refinement.proofs.Represents.verdict_is v) Open) ≡ Open
  by true verdicts.Open t = refl
  by true verdicts.Yes t = absurd (cc (t))
  by true verdicts.No t = absurd (cc (t))
  by false v t = refl

pub rollback-open : (s : World) (c : State) → Represents s c → (i : ℕ) → IsTrue (is_undecided (verdict_of s.content i)) → c.board.verdict (Rollback i) ≡ Open
rollback-open s c is i t = (is.board i).rollback ∙ opened-as purposes.Rollback (instance_row s.content i) t

pub check-open : (s : World) (c : State) → Represents s c → (i : ℕ) → IsTrue (is_undecided (verdict_of s.content i)) → c.board.verdict (Check i) ≡ Open
check-open s c is i t = (is.board i).check ∙ opened-as purposes.Check (instance_row s.content i) t

-- who asks somebody has not voted
pub waits-for : (p : NodeId) (n : ℕ) → 1 ≤ n → outcome_from false (map (across p) (numbers 1 n)) ≡ None
unfolding numbers
waits-for p zero some = absurd (omega (arith, some))
waits-for p (suc n) some = refl

pub all-chosen : {A : Type 0} (xs : List A) → filter (λ x. true) xs ≡ xs
all-chosen [] = refl
all-chosen (x ∷ xs) = ap (λ l. x ∷ l) (all-chosen xs)

-- ---- instances in which a node votes

pub rolling-is : (s : World) (c : State) → Represents s c → (p : NodeId) (n : Live) (b : Poll) → IsAlive s p n → n.phase ≡ phases.Rolling b
    → Votes (Rollback b.instance) b (c.node (node_index p)).life (c.node (node_index p)).mode
rolling-is s c is p n b alive rolling =
    subst (λ (x : Phase). PhaseIs x (c.node (node_index p)).life (c.node (node_index p)).mode) rolling (alive-is s c is p n alive).state.phase

pub held-is : (s : World) (c : State) → Represents s c → (p : NodeId) (n : Live) (b : Poll) → IsAlive s p n → n.phase ≡ phases.Held b
    → Votes (Check b.instance) b (c.node (node_index p)).life (c.node (node_index p)).mode
held-is s c is p n b alive held =
    subst (λ (x : Phase). PhaseIs x (c.node (node_index p)).life (c.node (node_index p)).mode) held (alive-is s c is p n alive).state.phase

-- an instance in which a node votes was begun
pub voting-begun : (peer : ℕ → ℕ → Bool) (c : State) → Invariant peer c → (o : ℕ) (i : Instance) (b : Ballot) → (c.node o).mode ≡ Within i b
    → c.board.begun i ≡ true
voting-begun peer c inv o i b e = ((inv.local o).members i (c.node o).life (b.parent, ((inv.local o).ballot i b e).member)).1

decided-as : (purpose : Purpose) (o : Option InstanceRow) (v : RealVerdict) → begun_as purpose o ≡ true
    → option_map (λ (row : InstanceRow). row.verdict) o ≡ Some v
    → verdict_as purpose o ≡ verdict_is v
decided-as purpose None v begun e = absurd (cc (e))
decided-as purpose (Some row) v begun e = rw begun (ap verdict_is (cc (e)))

pub rollback-verdict : (s : World) (c : State) → Represents s c → (i : ℕ) (v : RealVerdict) → c.board.begun (Rollback i) ≡ true → verdict_of s.content i
    ≡ Some v
    → c.board.verdict (Rollback i) ≡ verdict_is v
rollback-verdict s c is i v begun e =
    (is.board i).rollback ∙ decided-as purposes.Rollback (instance_row s.content i) v (sym (is.board i).rollback_begun ∙ begun) e
