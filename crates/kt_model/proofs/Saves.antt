-- A node of a ready state can act, and its checkpoint can be taken.
-- Cited by Fit; other crates.
use Rattle.std.proofs.Common.{◌≡◌, ℕ, get_or, zero, suc, ◌+◌, ◌≤◌, true, List, ◌++◌, length, Option, None, Some, refl, sym, ap, ◌∙◌, arith}
use Rattle.std.specs.Prelude.{IfSome, IsTrue, is_some, unwrap_or}
use Rattle.std.specs.List.{flat_map}
use Rattle.std.proofs.lemmas.List.{length-map}
use Rattle.std.proofs.lemmas.List.Elements.{Contains-get_or}
use Rattle.kt_tuple.specs.declared.node.NodeId.{NodeId}
use Rattle.kt_tuple.specs.declared.node.NodeId.TheVariants as ids
use Rattle.kt_link.specs.declared.label.Label.{Label}
use Rattle.kt_tuple.specs.declared.node.TheConstants.{MAX_WORKERS}
use Rattle.kt_ckpt.specs.Reading.{IsRising}
use Rattle.kt_ckpt.specs.Checkpoint.{Suits, IsCountedState, ArePeers}
use Rattle.kt_ckpt.specs.Node.{IsNode as IsNamed}
use Rattle.kt_state.specs.declared.live.Phase.{Phase}
use Rattle.kt_state.specs.declared.live.Phase.TheVariants as phases
use Rattle.kt_state.specs.Labels.{label_at, listed, numbers}
use Rattle.kt_state.specs.Node.{Body, IsWorker, IsShard, Live, Node, Down, Alive}
use Rattle.kt_state.specs.State.{entry, entries, body_fields}
use Rattle.kt_node.specs.Steps.{up_in}
use Rattle.kt_state.specs.Ready.{CanCount}
use Rattle.kt_node.specs.Speaking.{CanSpeak, KeptHavePlaces, CanAct}
use Rattle.kt_node.specs.Saving.{CanSave, CanSaveNode}
use Rattle.kt_scenario.specs.Scene.{is_node}
use Rattle.kt_model.specs.State.{State, node, role_of, view}
use Rattle.kt_model.specs.auxiliary.Ready.{IsBodyReady, IsReady}
use Rattle.kt_model.proofs.Plans.{IsAlive, IsDown}
use Rattle.kt_model.proofs.Passed.{alive-is}
use Rattle.kt_scenario.proofs.Shared.{IsNode, a_worker, a_shard, of_node}
use Rattle.kt_model.proofs.Scene.{some_peers, few_peers, neighbour-place}
use Rattle.kt_model.proofs.Lists.{length-numbers}
use Rattle.kt_model.proofs.LogActs.{acts-long}
use Rattle.kt_model.proofs.NoteSound.{log-long}
use Rattle.kt_model.proofs.Loads.{script-short}
use Rattle.kt_model.proofs.Good.{live-ready}
use Rattle.kt_model.proofs.Leaves.{can-count}

-- ---- a node of a ready state

pub alive-node : (s : State) → IsReady s → (p : NodeId) (n : Live) → IsAlive s p n → IsTrue (is_node s.scene p)
alive-node s ready p n at = sym (ready.there p) ∙ ap is_some at

-- a node of the scene that is seen down has a row
pub down-row : (s : State) → IsReady s → (p : NodeId) → IsTrue (is_node s.scene p) → IsDown s p → node s p ≡ Some Down
down-row s ready p there down = by (node s p) (ready.there p ∙ there) down
  where
    by : (row : Option Node) → is_some row ≡ true → unwrap_or row Down ≡ Down → row ≡ Some Down
    by None e f = absurd cc
    by (Some x) e f = ap (λ (y : Node). Some y) f

-- ---- acting

pub can_act : (s : State) → IsReady s → (p : NodeId) → CanAct (view s p)
can_act s ready p = record {
  some = some_peers s.scene ready.scene p;
  few = let few = few_peers s.scene ready.scene p in omega (arith, few);
  count = speaks (view s p).node refl;
  kept = keeps (view s p).node refl;
}
  where
    speaks : (x : Node) → (view s p).node ≡ x → CanSpeak x
    speaks Down is = tt
    speaks (Alive n) is = by n.phase
      where
        by : (phase : Phase) → IfSome (up_in n phase) CanCount
        by phases.Up = can-count s ready p n (alive-is s p n is)
        by (phases.Held b) = tt
        by (phases.Rolling b) = tt

    keeps : (x : Node) → (view s p).node ≡ x → KeptHavePlaces x
    keeps Down is = tt
    keeps (Alive n) is = λ k d lt.
        neighbour-place s.scene ready.scene p (get_or n.kept k d).0
        ((live-ready s ready p n (alive-is s p n is)).kept (get_or n.kept k d) (Contains-get_or n.kept k d lt)).from

-- ---- saving

rising : {A : Type 0} (of : ℕ → Option A) (least from n : ℕ) → least ≤ from → from + n ≤ MAX_WORKERS + 1
    → IsRising least (flat_map (λ worker. entry worker (of worker)) (numbers from n))
unfolding numbers
rising of least from zero low high = tt
rising {A} of least from (suc n) low high = by (of from) (λ next le. rising of next (suc from) n le (omega (arith, high)))
  where
    rest : List (ℕ × A)
    rest = flat_map (λ worker. entry worker (of worker)) (numbers (suc from) n)

    by : (o : Option A) → ((next : ℕ) → next ≤ suc from → IsRising next rest) → IsRising least (entry from o ++ rest)
    by None more = more least (omega (arith, low))
    by (Some x) more = (low, omega (arith, high), more (from + 1) (omega arith))

rising-entries : {A : Type 0} (of : ℕ → Option A) → IsRising 1 (entries of)
rising-entries of = rising of 1 1 MAX_WORKERS (omega arith) (omega arith)

pub length-listed : (peers : ℕ) (table : List Label) → length (listed peers table) ≡ peers
length-listed peers table = length-map (numbers 1 peers) (label_at table) ∙ length-numbers 1 peers

are-peers : (s : State) → IsReady s → (p : NodeId) (sent received : List Label)
    → ArePeers (listed (role_of s.scene p).peers sent) (listed (role_of s.scene p).peers received)
are-peers s ready p sent received =
    let some = some_peers s.scene ready.scene p in
    let few = few_peers s.scene ready.scene p in
    let one = length-listed (role_of s.scene p).peers sent in
    let two = length-listed (role_of s.scene p).peers received in
    (omega (arith, some, one), omega (arith, few, one), one ∙ sym two)

named : (s : State) → IsReady s → (p : NodeId) → IsNode s.scene p → IsNamed (role_of s.scene p).id
named s ready p (a_worker low high) = let few = ready.scene.few_workers in (low, omega (arith, high, few))
named s ready p (a_shard low high) = let few = ready.scene.few_shards in (low, omega (arith, high, few))

suits : (s : State) (p : NodeId) (b : Body) → IsBodyReady (role_of s.scene p).script (length s.history) p b → Suits (role_of s.scene p).id (body_fields b)
suits s (ids.Worker n) (IsWorker x) is = tt
suits s (ids.Worker n) (IsShard y) is = is
suits s (ids.Shard n) (IsWorker x) is = is
suits s (ids.Shard n) (IsShard y) is = tt

counted : (s : State) → IsReady s → (p : NodeId) (b : Body) → IsBodyReady (role_of s.scene p).script (length s.history) p b → IsCountedState (body_fields b)
counted s ready (ids.Worker n) (IsWorker x) is =
    let short = (script-short s ready n).commands in
    let within = is.pc in
    (omega (arith, short, within), is.values)
counted s ready (ids.Worker n) (IsShard y) is = absurd is
counted s ready (ids.Shard n) (IsWorker x) is = absurd is
counted s ready (ids.Shard n) (IsShard y) is =
    let notes = ready.few_notes in
    (omega (arith, is, notes), rising-entries _, rising-entries _)

pub can_save : (s : State) → IsReady s → (p : NodeId) (n : Live) → IsAlive s p n → CanSave (view s p) n
can_save s ready p n at = record {
  node = named s ready p (of_node s.scene p (alive-node s ready p n at));
  peers = are-peers s ready p n.sent n.received;
  suits = suits s p n.body (live-ready s ready p n at).body;
  state = counted s ready p n.body (live-ready s ready p n at).body;
  long = acts-long s.history p ∙ log-long s.history p;
}

pub can_save_node : (s : State) → IsReady s → (p : NodeId) → CanSaveNode (view s p) (view s p).node
can_save_node s ready p = by (view s p).node refl
  where
    by : (x : Node) → (view s p).node ≡ x → CanSaveNode (view s p) x
    by Down is = tt
    by (Alive n) is = can_save s ready p n (alive-is s p n is)
