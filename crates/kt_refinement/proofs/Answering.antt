-- An ask that is answered at once: the machine grants or refuses it.
-- Cited by Forcing, JoinsCheck, JoinsRollback, Refining.
use Rattle.std.proofs.Common.{◌≡◌, ◌⊎◌, ℕ, Bool, true, false, ◌&&◌, IsTrue, List, ◌∷◌, Option, Some, None, inl, inr, refl, sym, ap, subst, ◌∙◌}
use Rattle.std.specs.Prelude.{if◌then◌else◌}
use Rattle.std.specs.Option.{option_map}
use Rattle.std.proofs.lemmas.Bool.{and_parts, eqb-true}
use Rattle.kt_tuple.specs.declared.node.NodeId.{NodeId}
use Rattle.kt_tuple.specs.Node.{node_index}
use Rattle.kt_history.specs.Log.{log}
use Rattle.kt_store.specs.declared.rows.Tentative.{Tentative}
use Rattle.kt_store.specs.declared.rows.Verdict.{Verdict as RealVerdict}
use Rattle.kt_store.specs.Content.{row_of, permanent_header, verdict_of, verdict_on}
use Rattle.kt_vote.specs.Poll.{Poll}
use Rattle.kt_state.specs.declared.message.Ask.{Ask as RealAsk}
use Rattle.kt_state.specs.declared.message.AppMessage.{AppMessage as RealAppMessage}
use Rattle.kt_state.specs.declared.message.Message.{Message as RealMessage}
use Rattle.kt_state.specs.declared.message.Message.TheVariants as messages
use Rattle.kt_state.specs.declared.live.Phase.{Phase}
use Rattle.kt_state.specs.declared.live.Phase.TheVariants as phases
use Rattle.kt_state.specs.declared.change.KeptChange.{KeptChange}
use Rattle.kt_state.specs.declared.change.KeptChange.TheVariants as keeps
use Rattle.kt_state.specs.declared.change.Change.TheVariants as changes
use Rattle.kt_state.specs.declared.plan.Plan.{Plan}
use Rattle.kt_node.specs.declared.reaction.Reaction.{Reaction}
use Rattle.kt_node.specs.declared.reaction.Reaction.TheVariants as reactions
use Rattle.kt_state.specs.Labels.{label_at, up_to}
use Rattle.kt_state.specs.Node.{Live, Alive, node_number}
use Rattle.kt_state.specs.Updating.{no_update}
use Rattle.kt_state.specs.Stored.{is_undecided, sent_in}
use Rattle.kt_state.specs.Voting.{vote_for, votes}
use Rattle.kt_node.specs.Joining.{asker_of}
use Rattle.kt_state.specs.Updating.{updated, changed_kept}
use Rattle.kt_node.specs.Arrivals.{is_in, check_in, check_when_open, check_reaction, answer_plan}
use Rattle.kt_node.specs.Arrivals.{rollback_in, rollback_when_open, rollback_reaction, sieved_answer_plan}
use Rattle.kt_scenario.specs.declared.step.Step.TheVariants.{Deliver}
use Rattle.kt_model.specs.State.{State as World}
use Rattle.kt_model.specs.StoreReads.{store_reads, of_first, tentative_in, header_in}
use Rattle.kt_model.specs.auxiliary.Ready.{AreNeighbours}
use Rattle.kt_model.specs.auxiliary.Backed.{IsTakenIn}
use Rattle.kt_model.proofs.Shared.{IsAlive, Comes, backed-in, Holds, neighbours-turned}
use Rattle.kt_protocol.specs.Labels.{UpTo}
use Rattle.kt_protocol.specs.Logs.{IsIn, here, there, top_sent}
use Rattle.kt_protocol.specs.Machine.{Instance, Check, Rollback, Message, Ask, AppMessage, Node, State, Vote, instance_of}
use Rattle.kt_protocol.specs.Steps.{sieved, sifting, answering, grants, refuses, MayAgree, change, pull}
use Rattle.kt_protocol.specs.Runs.{nothing_done, one_more}
use Rattle.kt_protocol.proofs.Shared.{at-here, at-else, at-both, UpTo-trans, up_to-true, a_key, a_vote}
use Rattle.kt_refinement.proofs.Mail.{QuietStep}
use Rattle.kt_refinement.proofs.Numbers.{peers, label_of}
use Rattle.kt_refinement.proofs.Represents.{carried, kept_from, WasCast, NodeIn, IsTentative, TentativeIs, undecided, Represents}
use Rattle.kt_refinement.proofs.Frames.{cases-node, apart-index, CastSo, Refines, owner-in, nodes-at, votes-at, delivered-quietly, leads-represents}
use Rattle.kt_refinement.proofs.Cohorts.{kept-sieved, kept-others}
use Rattle.kt_refinement.proofs.Silence.{silent-to}
use Rattle.kt_refinement.proofs.Known.{alive-is, near-is, comes-is, rollback-open, check-open, rolling-is}
use Rattle.kt_refinement.proofs.Decides.{opened-is}

-- ---- the answer

-- the plan of an answer, with what it drops of what is kept
abbrev pub answers_so : NodeId → RealAsk → Bool → KeptChange → Plan
answers_so from ask agreed kept = record {
  change = changes.Update record no_update { kept = kept };
  send = votes (Some (vote_for ask.instance (asker_of from ask) agreed));
  note = None;
  write = None;
}

-- the node that has answered
abbrev pub answered : Instance → NodeId → RealAsk → Bool → Node → Node
answered i p ask agreed x = answering i (a_key (node_index p) ask.incarnation) agreed (sifting i (node_index p) (label_of ask.label) x)

-- what is kept behind the ask is what the machine keeps
abbrev pub KeepsSo : Instance → NodeId → RealAsk → Node → List (NodeId × RealAppMessage) → Type 0
KeepsSo i p ask x kept = (r : NodeId) → (sifting i (node_index p) (label_of ask.label) x).kept (node_index r) ≡ kept_from r kept

answered-is : (s : World) (c : State) → Represents s c → (p q : NodeId) (n : Live) (ask : RealAsk) (i : Instance) (agreed : Bool) (kept : KeptChange)
    → IsAlive s q n → KeepsSo i p ask (c.node (node_index q)) (changed_kept n.kept kept)
    → NodeIn s.scene s.history s.content q (Some (Alive (updated record no_update { kept = kept } n))) (answered i p ask agreed (c.node (node_index q)))
answered-is s c is p q n ask i agreed kept alive keeps =
    let was = alive-is s c is q n alive in record {
      log = was.log;
      life = was.life;
      state = record {
        phase = was.state.phase;
        life = was.state.life;
        count = was.state.count;
        sent = was.state.sent;
        received = was.state.received;
        kept = keeps;
      };
      perm = was.perm;
      tent = was.tent;
      lower = was.lower;
    }

answers : (s : World) (c : State) → Represents s c → (p q : NodeId) (n : Live) (m : RealMessage) (ask : RealAsk) (i : Instance) (agreed : Bool)
    (kept : KeptChange)
    → (comes : Comes s p q m) → IsAlive s q n → KeepsSo i p ask (c.node (node_index q)) (changed_kept n.kept kept)
    → QuietStep (peers s.scene) c (change (node_index q) (answered i p ask agreed) (pull (node_index p) (node_index q) (carried comes.later) c))
    → ((of : List Vote) → IsIn (a_vote i (a_key (node_index p) ask.incarnation) agreed) of
    → WasCast of p (vote_for ask.instance (asker_of p ask) agreed).1)
    → Refines s (Deliver p q) (answers_so p ask agreed kept) c
answers s c is p q n m ask i agreed kept comes alive keeps step cast =
    let o = node_index q in
    let plan = answers_so p ask agreed kept in
    let new : Node = answered i p ask agreed (c.node o) in
    let next : State = change o (answered i p ask agreed) (pull (node_index p) o (carried comes.later) c) in
    record {
      next = next;
      run = one_more nothing_done step.step;
      fresh = inl (tt, step.quiet);
      stands = leads-represents s (Deliver p q) plan c next is (record {
        nodes = nodes-at s (Deliver p q) plan c new is tt (λ r d. refl)
            (owner-in s (Deliver p q) plan (Some (Alive n)) new alive (answered-is s c is p q n ask i agreed kept alive keeps));
        board = is.board;
        links = delivered-quietly s p q plan c m is comes (λ r near. silent-to r plan.send (refl, tt));
        votes = votes-at c o new (λ v m. there m);
        cast =
            let X : Node → Type 0 = λ x. CastSo x.votes (p, messages.Vote (vote_for ask.instance (asker_of p ask) agreed).1) in
            (subst X (sym (at-here o new c.node)) (cast new.votes here), tt);
      });
    }

-- ---- what is kept

-- an ask of a check drops nothing
pub keeps-all : (s : World) (c : State) → Represents s c → (p q : NodeId) (n : Live) (ask : RealAsk) → IsAlive s q n
    → KeepsSo (Check ask.instance) p ask (c.node (node_index q)) n.kept
keeps-all s c is p q n ask alive r =
    let kept = (c.node (node_index q)).kept in
    at-both (node_index p) (kept (node_index p)) kept (node_index r) (λ (ks : List AppMessage). ks ≡ kept_from r n.kept)
    (λ e. ap kept (sym e) ∙ (alive-is s c is q n alive).state.kept r) (λ ne. (alive-is s c is q n alive).state.kept r)

pub keeps-sieved : (s : World) (c : State) → Represents s c → (p q : NodeId) (n : Live) (ask : RealAsk) → IsAlive s q n
    → KeepsSo (Rollback ask.instance) p ask (c.node (node_index q)) (changed_kept n.kept (keeps.Sieve p ask.label))
keeps-sieved s c is p q n ask alive r = elim (cases-node r p) [
  | inl e ↦
      let P : NodeId → Type 0 = λ z. (sifting (Rollback ask.instance) (node_index p) (label_of ask.label) (c.node (node_index q))).kept (node_index z)
      ≡ kept_from z (changed_kept n.kept (keeps.Sieve p ask.label)) in
      subst P (sym e) (at-here (node_index p) _ (c.node (node_index q)).kept ∙ ap (sieved (Rollback ask.instance) (label_of ask.label)) (was.state.kept p)
      ∙ sym (kept-sieved p ask.label n.kept))
  | inr d ↦
      at-else (node_index p) _ (c.node (node_index q)).kept (node_index r) (apart-index r p d) ∙ was.state.kept r
      ∙ sym (kept-others p r ask.label n.kept (λ e. d (sym e)))
] where
  was : NodeIn s.scene s.history s.content q (Some (Alive n)) (c.node (node_index q))
  was = alive-is s c is q n alive

-- ---- why a yes is said

open-first : (b : Bool) (r : Reaction) → (if b then r else reactions.Says false) ≡ reactions.Says true → IsTrue b × (r ≡ reactions.Says true)
open-first true r e = (refl, e)
open-first false r e = absurd cc

-- a yes for one of two reasons
either : (b : Bool) (r : Reaction) → (if b then reactions.Says true else r) ≡ reactions.Says true → IsTrue b ⊎ (r ≡ reactions.Says true)
either true r e = inl refl
either false r e = inr e

joins-or-no : (b : Bool) → (if b then reactions.Joins else reactions.Says false) ≡ reactions.Says true → ⊥
joins-or-no true e = cc (e)
joins-or-no false e = cc (e)

says : (a b : Bool) → reactions.Says a ≡ reactions.Says b → a ≡ b
says a b e = cc (e)

-- the verdict on the instance of the ask that comes
pub asked-open : (s : World) (p q : NodeId) (m : RealMessage) (k : ℕ) → (comes : Comes s p q m)
    → Rattle.kt_model.specs.StoreReads.of_ask s.content m ≡ verdict_of s.content k
    → IsTrue (is_undecided (store_reads s (Deliver p q)).verdict) → IsTrue (is_undecided (verdict_of s.content k))
asked-open s p q m k comes same undecided =
    subst (λ v. IsTrue (is_undecided v)) same (subst (λ l. IsTrue (is_undecided (of_first s.content l))) comes.on undecided)

may-agree-check : (s : World) (c : State) → Represents s c → Holds s → (p q : NodeId) (n : Live) (ask : RealAsk) → AreNeighbours s.scene p q → IsAlive s q n
    → IsTrue (is_undecided (verdict_of s.content ask.instance))
    → check_when_open n p ask (permanent_header s.content q) (tentative_in s.content q) ≡ reactions.Says true
    → MayAgree (Check ask.instance) (c.node (node_index q)) (node_index p) (label_of ask.label)
may-agree-check s c is h p q n ask near alive opened e =
    elim (either (up_to ask.label (sent_in (permanent_header s.content q) (node_number p))) (check_in n p ask (tentative_in s.content q) n.phase) e) [
      | inl low ↦ inl (UpTo-trans (up_to-true (label_of ask.label) (label_of (sent_in (permanent_header s.content q) (node_number p))) low) (was.lower p back))
      | inr so ↦ inr (by n.phase refl so)
    ]
  where
    was : NodeIn s.scene s.history s.content q (Some (Alive n)) (c.node (node_index q))
    was = alive-is s c is q n alive

    back : AreNeighbours s.scene q p
    back = neighbours-turned s.scene p q near

    Agrees : Type 0
    Agrees = ((c.node (node_index q)).tent ≡ Some ask.instance) × UpTo (label_of ask.label) (top_sent (c.node (node_index q)).log (node_index p))

    Tent : Option Tentative → Option RealVerdict → Type 0
    Tent t v = TentativeIs s.scene s.history q (log s.history q) (undecided v t) (c.node (node_index q)).tent (c.node (node_index q)).log

    held : (b : Poll) → n.phase ≡ phases.Held b → (is_in b ask.instance && up_to ask.label (sent_in (tentative_in s.content q) (node_number p))) ≡ true
        → Agrees
    held b phase e =
        let both = and_parts (is_in b ask.instance) (up_to ask.label (sent_in (tentative_in s.content q) (node_number p))) e in
        let taken : IsTakenIn b.instance (row_of s.content q).tentative = backed-in s h.backed q n (phases.Held b) alive phase in
        let t = taken.tentative in
        let of : t.instance ≡ ask.instance = taken.is_of ∙ eqb-true b.instance ask.instance both.0 in
        let stored : Tent (Some t) (verdict_of s.content t.instance) = subst (λ o. Tent o (verdict_on s.content o)) taken.is_stored was.tent in
        let is_tent : IsTentative s.scene s.history q (log s.history q) t (c.node (node_index q)).tent (c.node (node_index q)).log =
        subst (Tent (Some t)) (ap (verdict_of s.content) of ∙ opened-is (verdict_of s.content ask.instance) opened) stored in
        let low : up_to ask.label (sent_in (Some (header_in t)) (node_number p)) ≡ true =
        subst (λ (o : Option Tentative). up_to ask.label (sent_in (option_map header_in o) (node_number p)) ≡ true) taken.is_stored both.1 in (
          is_tent.instance ∙ ap Some of,
          subst (λ l. UpTo (label_of ask.label) l) (is_tent.stands.sent p back)
              (up_to-true (label_of ask.label) (label_of (sent_in (Some (header_in t)) (node_number p))) low),
        )

    by : (f : Phase) → n.phase ≡ f → check_in n p ask (tentative_in s.content q) f ≡ reactions.Says true → Agrees
    by phases.Up phase e = absurd (joins-or-no _ e)
    by (phases.Held b) phase e = held b phase (says _ true e)
    by (phases.Rolling b) phase e = absurd (cc (e))

may-agree-rollback : (s : World) (c : State) → Represents s c → (p q : NodeId) (n : Live) (ask : RealAsk) → AreNeighbours s.scene p q → IsAlive s q n
    → rollback_when_open n p ask ≡ reactions.Says true
    → MayAgree (Rollback ask.instance) (c.node (node_index q)) (node_index p) (label_of ask.label)
may-agree-rollback s c is p q n ask near alive e =
    elim (either (up_to (label_at n.received (node_number p)) ask.label) (rollback_in ask n.phase) e) [
      | inl low ↦ inr (subst (λ l. UpTo l (label_of ask.label)) (was.state.received p (neighbours-turned s.scene p q near))
          (up_to-true (label_of (label_at n.received (node_number p))) (label_of ask.label) low))
      | inr so ↦ inl (by n.phase refl so)
    ]
  where
    was : NodeIn s.scene s.history s.content q (Some (Alive n)) (c.node (node_index q))
    was = alive-is s c is q n alive

    by : (f : Phase) → n.phase ≡ f → rollback_in ask f ≡ reactions.Says true → instance_of (c.node (node_index q)).mode ≡ Some (Rollback ask.instance)
    by phases.Up phase e = absurd (cc (e))
    by (phases.Held b) phase e = absurd (cc (e))
    by (phases.Rolling b) phase e =
        ap instance_of (rolling-is s c is q n b alive phase).within
        ∙ ap (λ i. Some (Rollback i)) (eqb-true b.instance ask.instance (says (is_in b ask.instance) true e))

-- ---- the leaves

pub answers_check : (s : World) (c : State) → Represents s c → Holds s → (p q : NodeId) (n : Live) (ask : RealAsk) (agreed : Bool)
    → Comes s p q (messages.CheckAsk ask) → IsAlive s q n
    → check_reaction n p ask (store_reads s (Deliver p q)).verdict (store_reads s (Deliver p q)).permanent (store_reads s (Deliver p q)).tentative
    ≡ reactions.Says agreed
    → Refines s (Deliver p q) (answer_plan p ask agreed) c
answers_check s c is h p q n ask agreed comes alive reacts =
    answers s c is p q n (messages.CheckAsk ask) ask (Check ask.instance) agreed keeps.Stay comes alive (keeps-all s c is p q n ask alive) (step agreed reacts)
    (λ of i. inl i)
  where
    o : ℕ
    o = node_index q

    rest : List Message
    rest = carried comes.later

    front : c.link (node_index p) (node_index q) ≡ Ask (Check ask.instance) (label_of ask.label) ask.incarnation ∷ rest
    front = comes-is s c is p q (messages.CheckAsk ask) comes

    open_so : IsTrue (is_undecided (store_reads s (Deliver p q)).verdict) → IsTrue (is_undecided (verdict_of s.content ask.instance))
    open_so = asked-open s p q (messages.CheckAsk ask) ask.instance comes refl

    step : (agreed : Bool)
        → check_reaction n p ask (store_reads s (Deliver p q)).verdict (store_reads s (Deliver p q)).permanent (store_reads s (Deliver p q)).tentative
        ≡ reactions.Says agreed
        → QuietStep (peers s.scene) c (change o (answered (Check ask.instance) p ask agreed) (pull (node_index p) o rest c))
    step false e = record {
      step = refuses o (node_index p) (Check ask.instance) (label_of ask.label) ask.incarnation rest (near-is s p q comes.neighbours) front;
      quiet = tt;
    }
    step true e =
        let why = open-first (is_undecided (store_reads s (Deliver p q)).verdict) (check_when_open n p ask _ _) e in
        record {
          step = grants o (node_index p) (Check ask.instance) (label_of ask.label) ask.incarnation rest (near-is s p q comes.neighbours) front
              (check-open s c is ask.instance (open_so why.0)) (may-agree-check s c is h p q n ask comes.neighbours alive (open_so why.0) why.1);
          quiet = tt;
        }

pub answers_rollback : (s : World) (c : State) → Represents s c → (p q : NodeId) (n : Live) (ask : RealAsk) (agreed : Bool)
    → Comes s p q (messages.RollAsk ask) → IsAlive s q n
    → rollback_reaction n p ask (store_reads s (Deliver p q)).verdict ≡ reactions.Says agreed
    → Refines s (Deliver p q) (sieved_answer_plan p ask agreed) c
answers_rollback s c is p q n ask agreed comes alive reacts =
    answers s c is p q n (messages.RollAsk ask) ask (Rollback ask.instance) agreed (keeps.Sieve p ask.label) comes alive (keeps-sieved s c is p q n ask alive)
    (step agreed reacts) (λ of i. inr i)
  where
    o : ℕ
    o = node_index q

    rest : List Message
    rest = carried comes.later

    front : c.link (node_index p) (node_index q) ≡ Ask (Rollback ask.instance) (label_of ask.label) ask.incarnation ∷ rest
    front = comes-is s c is p q (messages.RollAsk ask) comes

    step : (agreed : Bool) → rollback_reaction n p ask (store_reads s (Deliver p q)).verdict ≡ reactions.Says agreed
        → QuietStep (peers s.scene) c (change o (answered (Rollback ask.instance) p ask agreed) (pull (node_index p) o rest c))
    step false e = record {
      step = refuses o (node_index p) (Rollback ask.instance) (label_of ask.label) ask.incarnation rest (near-is s p q comes.neighbours) front;
      quiet = tt;
    }
    step true e =
        let why = open-first (is_undecided (store_reads s (Deliver p q)).verdict) (rollback_when_open n p ask) e in
        record {
          step = grants o (node_index p) (Rollback ask.instance) (label_of ask.label) ask.incarnation rest (near-is s p q comes.neighbours) front
              (rollback-open s c is ask.instance (asked-open s p q (messages.RollAsk ask) ask.instance comes refl why.0))
              (may-agree-rollback s c is p q n ask comes.neighbours alive why.1);
          quiet = tt;
        }
