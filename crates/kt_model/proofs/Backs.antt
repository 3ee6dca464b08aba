-- What a plan has whose write the store allows and that leaves the state backed, told of its parts.
-- Cited by AllInstanceRows, CheckLeaves, FailLeaves, Fit, RollLeaves, Settling, StaysBacked; other crates.
use Rattle.std.proofs.Common.{◌≡◌, ◌≢◌, ℕ, ◌+◌, ◌≤◌, Bool, true, false, List, [], Contains, Option, None, Some, inl, inr, refl, sym, ap, ◌∙◌, subst, arith}
use Rattle.std.specs.Prelude.{IfSome, unwrap_or, is_some}
use Rattle.std.specs.List.{AllByRecursion}
use Rattle.std.specs.Option.{option_map}
use Rattle.std.proofs.lemmas.Bool.{cases_eq}
use Rattle.kt_tuple.specs.declared.node.NodeId.{NodeId}
use Rattle.kt_tuple.specs.Node.{node_index}
use Rattle.kt_tuple.proofs.Shared.{node_index-injective}
use Rattle.kt_store.specs.declared.rows.NodeRow.{NodeRow}
use Rattle.kt_store.specs.declared.rows.Tentative.{Tentative}
use Rattle.kt_store.specs.declared.rows.Verdict.{Verdict}
use Rattle.kt_store.specs.declared.rows.Verdict.TheVariants as verdicts
use Rattle.kt_store.specs.Verdict.{verdict_from}
use Rattle.kt_store.specs.Content.{Content, row_of, verdict_of, verdict_on}
use Rattle.kt_shard.specs.Table.{at}
use Rattle.kt_vote.specs.declared.vote.Vote.{Vote}
use Rattle.kt_vote.specs.declared.asker.Asker.{Asker}
use Rattle.kt_vote.specs.Poll.{Poll}
use Rattle.kt_link.specs.declared.label.Label.{Label}
use Rattle.kt_state.specs.declared.message.Message.{Message}
use Rattle.kt_state.specs.declared.message.Message.TheVariants as messages
use Rattle.kt_state.specs.declared.live.Phase.{Phase}
use Rattle.kt_state.specs.declared.change.Update.{Update}
use Rattle.kt_state.specs.declared.change.Change.{Change}
use Rattle.kt_state.specs.declared.change.Change.TheVariants as changes
use Rattle.kt_state.specs.declared.plan.Plan.{Plan}
use Rattle.kt_state.specs.declared.plan.Write.{Write}
use Rattle.kt_state.specs.Node.{Live, Node, Down, Alive}
use Rattle.kt_state.specs.Stored.{is_undecided}
use Rattle.kt_state.specs.Updating.{changed, phase_in}
use Rattle.kt_state.specs.Voting.{casting, votes}
use Rattle.kt_state.specs.Asking.{check_asks, roll_asks}
use Rattle.kt_node.specs.Learning.{verdict_to}
use Rattle.kt_node.specs.Deciding.{settled}
use Rattle.kt_scenario.specs.declared.step.Step.{Step}
use Rattle.kt_scenario.specs.Step.{owner}
use Rattle.kt_model.specs.State.{State, node, link_place}
use Rattle.kt_model.specs.Writing.{content_after}
use Rattle.kt_model.specs.Effect.{taken_off, applied}
use Rattle.kt_model.specs.auxiliary.Backed.{IsTakenIn, IsPhaseBacked, IsNodeBacked, IsBoards, IsBacked, IsAllowed}
use Rattle.kt_model.proofs.Plans.{IsAlive, IsDown, Comes}
use Rattle.kt_model.proofs.OnLinks.{taken_off-was, sent-cases, first-holds}
use Rattle.kt_model.proofs.Frames.{applied-rows}
use Rattle.kt_model.proofs.Lists.{all-from, all-map}
use Rattle.kt_model.proofs.Leaves.{casting-all}
use Rattle.kt_model.proofs.Boards.{Says}
use Rattle.kt_model.proofs.Writes.{row_after, own-row, other-rows, says-after, board-after, incarnation-after, next-after}
use Rattle.kt_logs.proofs.Shared.{all-at}
use Rattle.kt_model.specs.StoreReads.{tentative_in, header_in}

-- the rows of the table are backed by what is stored of the node
abbrev pub IsRowBacked : Option Tentative → Option Node → Type 0
IsRowBacked stored row = IfSome row (λ x. IsNodeBacked x stored)

-- the messages are the board's
abbrev pub SaysBoards : Content → NodeId × Message → Type 0
SaysBoards c m = IsBoards c m.1

pub record Backs (s : State) (p : NodeId) (plan : Plan) : Type 0 where
  pub allowed : IfSome plan.write (IsAllowed s.content p)
  pub row : IsRowBacked (row_after s.content (row_of s.content p) plan.write).tentative (option_map (changed plan.change) (node s p))
  pub says : AllByRecursion (SaysBoards (content_after p plan.write s.content)) plan.send

-- ---- the state after it

nodes-after : (s : State) → IsBacked s → (step : Step) (plan : Plan) → Backs s (owner step) plan → (q : NodeId)
    → IsRowBacked (row_of (applied s step plan).content q).tentative (node (applied s step plan) q)
nodes-after s is step plan b = applied-rows s step plan (λ q row. IsRowBacked (row_of new q).tentative row) own others
  where
    new : Content
    new = content_after (owner step) plan.write s.content

    own : IsRowBacked (row_of new (owner step)).tentative (option_map (changed plan.change) (node s (owner step)))
    own =
        subst (λ (row : NodeRow). IsRowBacked row.tentative (option_map (changed plan.change) (node s (owner step))))
        (sym (own-row (owner step) plan.write s.content)) b.row

    others : (q : NodeId) → owner step ≢ q → IsRowBacked (row_of new q).tentative (node s q)
    others q apart =
        subst (λ (row : NodeRow). IsRowBacked row.tentative (node s q)) (sym (other-rows (owner step) plan.write s.content q (λ e. apart (sym e)))) (is.nodes q)

boards-later : (p : NodeId) (write : Option Write) (c : Content) → IfSome write (IsAllowed c p) → (m : Message) → IsBoards c m
    → IsBoards (content_after p write c) m
boards-later p write c allowed (messages.App app) is = tt
boards-later p write c allowed (messages.CheckAsk ask) is = tt
boards-later p write c allowed (messages.RollAsk ask) is = tt
boards-later p write c allowed (messages.Vote vote) is = tt
boards-later p write c allowed (messages.Verdict instance agreed) is = says-after p write c allowed instance agreed is

messages-after : (s : State) → IsBacked s → (step : Step) (plan : Plan) → Backs s (owner step) plan → (k : ℕ) (m : Message)
    → Contains (at [] (applied s step plan).links k) m → IsBoards (applied s step plan).content m
messages-after s is step plan b k m c = elim (sent-cases (link_place s.scene) (taken_off (link_place s.scene) s.links step) (owner step) plan.send (Some k) m
    c) [
      | inl old ↦ boards-later (owner step) plan.write s.content b.allowed m (is.messages k m (taken_off-was (link_place s.scene) s.links step (Some k) m old))
      | inr new ↦ all-at (SaysBoards (content_after (owner step) plan.write s.content)) plan.send (new.to, m) b.says new.among
    ]

incarnations-after : (s : State) → ((p : NodeId) → (row_of s.content p).incarnation ≤ s.made + 1) → (step : Step) (plan : Plan) (q : NodeId)
    → (row_of (applied s step plan).content q).incarnation ≤ s.made + 1 + 1
incarnations-after s all step plan q = elim (cases_eq (node_index q) (node_index p)) [
  | inl e ↦ subst (λ (r : NodeId). (row_of new r).incarnation ≤ s.made + 1 + 1) (sym (node_index-injective q p e)) own
  | inr d ↦
      let apart : ¬ (q ≡ p) = λ e. d (ap node_index e) in
      let few = all q in
      subst (λ (row : NodeRow). row.incarnation ≤ s.made + 1 + 1) (sym (other-rows p plan.write s.content q apart)) (omega (arith, few))
]
  where
    p : NodeId
    p = owner step

    new : Content
    new = content_after p plan.write s.content

    own : (row_of new p).incarnation ≤ s.made + 1 + 1
    own =
        let few = all p in
        let one = incarnation-after s.content (row_of s.content p) plan.write in
        subst (λ (row : NodeRow). row.incarnation ≤ s.made + 1 + 1) (sym (own-row p plan.write s.content)) (omega (arith, few, one))

pub backs-backed : (s : State) (step : Step) (plan : Plan) → IsBacked s → Backs s (owner step) plan → IsBacked (applied s step plan)
backs-backed s step plan is b = record {
  nodes = nodes-after s is step plan b;
  messages = messages-after s is step plan b;
  board = board-after (owner step) plan.write s.content is.board;
  few_instances = λ new.
      let instances = is.few_instances new in
      let one = next-after (owner step) plan.write s.content in
      omega (arith, instances, one);
  few_incarnations = λ new. incarnations-after s (is.few_incarnations new) step plan;
}

-- ---- a node as it was

pub phase-backed : (s : State) → IsBacked s → (p : NodeId) (n : Live) → IsAlive s p n → IsPhaseBacked n.phase (row_of s.content p).tentative
phase-backed s is p n at = subst (IsRowBacked (row_of s.content p).tentative) at (is.nodes p)

-- in this phase
pub backed-in : (s : State) → IsBacked s → (p : NodeId) (n : Live) (x : Phase) → IsAlive s p n → n.phase ≡ x → IsPhaseBacked x (row_of s.content p).tentative
backed-in s is p n x at e = subst (λ (y : Phase). IsPhaseBacked y (row_of s.content p).tentative) e (phase-backed s is p n at)

-- ---- what becomes of it

updated-row : (s : State) (p : NodeId) (n : Live) (t : Update) (stored : Option Tentative) → IsAlive s p n → IsPhaseBacked (phase_in n.phase t.phase) stored
    → IsRowBacked stored (option_map (changed (changes.Update t)) (node s p))
updated-row s p n t stored at is = subst (λ (row : Option Node). IsRowBacked stored (option_map (changed (changes.Update t)) row)) (sym at) is

loaded-row : (s : State) (p : NodeId) (live : Live) (stored : Option Tentative) → IsPhaseBacked live.phase stored
    → IsRowBacked stored (option_map (changed (changes.Load live)) (node s p))
loaded-row s p live stored is = by (node s p)
  where
    by : (row : Option Node) → IsRowBacked stored (option_map (changed (changes.Load live)) row)
    by None = tt
    by (Some x) = is

fallen-row : (s : State) (p : NodeId) (stored : Option Tentative) → IsRowBacked stored (option_map (changed changes.Fall) (node s p))
fallen-row s p stored = by (node s p)
  where
    by : (row : Option Node) → IsRowBacked stored (option_map (changed changes.Fall) row)
    by None = tt
    by (Some x) = tt

stayed-row : (s : State) (p : NodeId) (stored : Option Tentative) → IsRowBacked stored (node s p)
    → IsRowBacked stored (option_map (changed changes.Stay) (node s p))
stayed-row s p stored is = by (node s p) is
  where
    by : (row : Option Node) → IsRowBacked stored row → IsRowBacked stored (option_map (changed changes.Stay) row)
    by None h = tt
    by (Some x) h = h

-- nothing is stored for a node that is down
down-backed : (s : State) (p : NodeId) (stored : Option Tentative) → IsDown s p → IsRowBacked stored (node s p)
down-backed s p stored down = by (node s p) down
  where
    by : (row : Option Node) → unwrap_or row Down ≡ Down → IsRowBacked stored row
    by None e = tt
    by (Some Down) e = tt
    by (Some (Alive n)) e = absurd cc

pub update-backs : (s : State) (p : NodeId) (n : Live) (plan : Plan) (t : Update) → plan.change ≡ changes.Update t → IsAlive s p n
    → IfSome plan.write (IsAllowed s.content p)
    → IsPhaseBacked (phase_in n.phase t.phase) (row_after s.content (row_of s.content p) plan.write).tentative
    → AllByRecursion (SaysBoards (content_after p plan.write s.content)) plan.send → Backs s p plan
update-backs s p n plan t change at allowed is says = record {
  allowed = allowed;
  row = subst (λ (c : Change). IsRowBacked stored (option_map (changed c) (node s p))) (sym change) (updated-row s p n t stored at is);
  says = says;
}
  where
    stored : Option Tentative
    stored = (row_after s.content (row_of s.content p) plan.write).tentative

pub load-backs : (s : State) (p : NodeId) (plan : Plan) (live : Live) → plan.change ≡ changes.Load live → IfSome plan.write (IsAllowed s.content p)
    → IsPhaseBacked live.phase (row_after s.content (row_of s.content p) plan.write).tentative
    → AllByRecursion (SaysBoards (content_after p plan.write s.content)) plan.send → Backs s p plan
load-backs s p plan live change allowed is says = record {
  allowed = allowed;
  row = subst (λ (c : Change). IsRowBacked stored (option_map (changed c) (node s p))) (sym change) (loaded-row s p live stored is);
  says = says;
}
  where
    stored : Option Tentative
    stored = (row_after s.content (row_of s.content p) plan.write).tentative

pub fall-backs : (s : State) (p : NodeId) (plan : Plan) → plan.change ≡ changes.Fall → plan.write ≡ None → plan.send ≡ [] → Backs s p plan
fall-backs s p plan change write send = record {
  allowed = subst (λ (w : Option Write). IfSome w (IsAllowed s.content p)) (sym write) tt;
  row = subst (λ (c : Change). IsRowBacked (row_after s.content (row_of s.content p) plan.write).tentative (option_map (changed c) (node s p))) (sym change)
      (fallen-row s p (row_after s.content (row_of s.content p) plan.write).tentative);
  says = subst (AllByRecursion (SaysBoards (content_after p plan.write s.content))) (sym send) tt;
}

-- the node stays, and says nothing: with nothing written, or while it is down
pub stay-backs : (s : State) → IsBacked s → (p : NodeId) (plan : Plan) → plan.change ≡ changes.Stay → plan.write ≡ None → plan.send ≡ [] → Backs s p plan
stay-backs s is p plan change write send = record {
  allowed = subst (λ (w : Option Write). IfSome w (IsAllowed s.content p)) (sym write) tt;
  row = subst (λ (c : Change). IsRowBacked (row_after s.content (row_of s.content p) plan.write).tentative (option_map (changed c) (node s p))) (sym change)
      (subst (λ (w : Option Write). IsRowBacked (row_after s.content (row_of s.content p) w).tentative (option_map (changed changes.Stay) (node s p)))
      (sym write)
      (stayed-row s p (row_of s.content p).tentative (is.nodes p)));
  says = subst (AllByRecursion (SaysBoards (content_after p plan.write s.content))) (sym send) tt;
}

pub down-backs : (s : State) (p : NodeId) (plan : Plan) → plan.change ≡ changes.Stay → IsDown s p → IfSome plan.write (IsAllowed s.content p)
    → plan.send ≡ [] → Backs s p plan
down-backs s p plan change down allowed send = record {
  allowed = allowed;
  row = subst (λ (c : Change). IsRowBacked stored (option_map (changed c) (node s p))) (sym change) (stayed-row s p stored (down-backed s p stored down));
  says = subst (AllByRecursion (SaysBoards (content_after p plan.write s.content))) (sym send) tt;
}
  where
    stored : Option Tentative
    stored = (row_after s.content (row_of s.content p) plan.write).tentative

-- ---- what is sent

pub casting-board : (c : Content) (b : Poll) → AllByRecursion (SaysBoards c) (votes (casting b))
casting-board c b = casting-all (SaysBoards c) b (by b.parent)
  where
    by : (o : Option Asker) → IfSome o (λ a. (vote : Vote) → Unit {0})
    by None = tt
    by (Some a) = λ vote. tt

pub checks-board : (c : Content) (instance : ℕ) (n : Live) (asked : List NodeId) → AllByRecursion (SaysBoards c) (check_asks instance n asked)
checks-board c instance n asked = all-map (SaysBoards c) _ asked (all-from (λ q. Unit {0}) asked (λ q h. tt))

pub rolls-board : (c : Content) (instance incarnation : ℕ) (label : ℕ → Label) (asked : List NodeId)
    → AllByRecursion (SaysBoards c) (roll_asks instance incarnation label asked)
rolls-board c instance incarnation label asked = all-map (SaysBoards c) _ asked (all-from (λ q. Unit {0}) asked (λ q h. tt))

pub verdicts-board : (c : Content) (instance : ℕ) (agreed : Bool) (asked : List NodeId) → Says c instance agreed
    → AllByRecursion (SaysBoards c) (verdict_to instance agreed asked)
verdicts-board c instance agreed asked says = all-map (SaysBoards c) _ asked (all-from (λ q. Says c instance agreed) asked (λ q h. says))

-- ---- verdicts

pub undecided-open : (o : Option Verdict) → is_undecided o ≡ true → o ≡ Some verdicts.Open
undecided-open None e = absurd cc
undecided-open (Some verdicts.Open) e = refl
undecided-open (Some verdicts.Yes) e = absurd cc
undecided-open (Some verdicts.No) e = absurd cc

pub settled-is : (o : Option Verdict) (agreed : Bool) → settled o ≡ Some agreed → o ≡ Some (verdict_from agreed)
settled-is None agreed e = absurd cc
settled-is (Some verdicts.Open) agreed e = absurd cc
settled-is (Some verdicts.Yes) agreed e = let is : true ≡ agreed = cc in ap (λ (b : Bool). Some (verdict_from b)) is
settled-is (Some verdicts.No) agreed e = let is : false ≡ agreed = cc in ap (λ (b : Bool). Some (verdict_from b)) is

-- the verdict of the instance is the one of the checkpoint that was taken in it
pub taken-has : (c : Content) (i : ℕ) (stored : Option Tentative) (v : Verdict) → IsTakenIn i stored → verdict_of c i ≡ Some v → verdict_on c stored ≡ Some v
taken-has c i stored v is e = ap (verdict_on c) is.is_stored ∙ ap (verdict_of c) is.is_of ∙ e

-- nothing tentative is told of where nothing is stored
pub none-tentative : (s : State) (p : NodeId) → is_some (tentative_in s.content p) ≡ false → (row_of s.content p).tentative ≡ None
none-tentative s p e = by (row_of s.content p).tentative e
  where
    by : (o : Option Tentative) → is_some (option_map header_in o) ≡ false → o ≡ None
    by None e = refl
    by (Some t) e = absurd cc

-- a verdict that comes is the board's
pub comes-boards : (s : State) → IsBacked s → (p q : NodeId) (m : Message) → Comes s p q m → IsBoards s.content m
comes-boards s is p q m comes = first-holds s p q m (IsBoards s.content) comes is.messages
