-- What the state of a world keeps so that each step can be made, whatever a store answers. The tables have their rows,
-- the counts are small, each node is of its kind, and who sent, asked or was asked is a neighbour.
-- Cited by ActLeaves, CanApplies, FailLeaves, FirstCut, Fit, Gives, Good, GoodActs, GoodAsks, Growing, Holding, Kept,
--   Lasting, Leaves, Loads, Opened, Passed, Resuming, RollLeaves, Saves, Scene, StepPlans, StepSound, Undamaged and 1
--   more; other crates.
use Rattle.std.specs.Prelude.{◌≡◌, ◌≢◌, ℕ, ◌<◌, ◌≤◌, List, [], length, Contains, IfSome, IsTrue, is_some, None}
use Rattle.std.specs.List.{AllByRecursion}
use Rattle.kt_tuple.specs.declared.node.NodeId.{NodeId}
use Rattle.kt_tuple.specs.declared.node.NodeId.TheVariants as ids
use Rattle.kt_tuple.specs.Node.{node_index}
use Rattle.kt_history.specs.declared.note.Note.{Note}
use Rattle.kt_history.specs.Log.{IsAct}
use Rattle.kt_history.specs.WellFormed.{CausesComeFirst, MayFollow}
use Rattle.kt_history.specs.Chronicle.{node_of}
use Rattle.kt_script.specs.declared.command.Command.{Command}
use Rattle.kt_worker.specs.declared.worker.Worker.{Worker}
use Rattle.kt_shard.specs.Table.{at}
use Rattle.kt_script.specs.declared.script.TheConstants.{MAX_VARIABLES}
use Rattle.kt_vote.specs.Poll.{Poll}
use Rattle.kt_state.specs.declared.message.AppMessage.{AppMessage}
use Rattle.kt_state.specs.declared.message.Message.{Message}
use Rattle.kt_state.specs.declared.message.Message.TheVariants as messages
use Rattle.kt_state.specs.declared.live.Phase.{Phase}
use Rattle.kt_state.specs.declared.plan.Plan.{Plan}
use Rattle.kt_state.specs.Node.{Body, IsWorker, IsShard, Live, Node, Down, Alive, poll_in}
use Rattle.kt_state.specs.Ready.{CanChange}
use Rattle.kt_model.specs.Limits.{rows as row_count}
use Rattle.kt_scenario.specs.declared.step.TheConstants.{MAX_STEPS, MAX_NOTES}
use Rattle.kt_scenario.specs.Scene.{SceneModel, IsScene, is_node, are_neighbours}
use Rattle.kt_model.specs.Short.{AreShort}
use Rattle.kt_model.specs.State.{State, node, role_of, view}

-- p and q are neighbours in the scene
abbrev pub AreNeighbours : SceneModel → NodeId → NodeId → Type 0
AreNeighbours scene p q = IsTrue (are_neighbours scene p q)

-- the worker stands within its script, behind at least as many commands as it made requests
pub record IsWithin (script : List Command) (x : Worker) : Type 0 where
  pub pc : x.position.pc ≤ length script
  pub numbered : x.number ≤ x.position.pc
  pub values : length x.position.memory.values ≤ MAX_VARIABLES

-- what a node of this name works with is of its kind, with no more tuples than there are notes
abbrev pub IsBodyReady : List Command → ℕ → NodeId → Body → Type 0
IsBodyReady script notes (ids.Worker n) (IsWorker x) = IsWithin script x
IsBodyReady script notes (ids.Worker n) (IsShard y) = ⊥
IsBodyReady script notes (ids.Shard n) (IsWorker x) = ⊥
IsBodyReady script notes (ids.Shard n) (IsShard y) = length y.bag ≤ notes

-- the message names the act that sent it, if it names one
abbrev pub NamesAct : List Note → ℕ → Type 0
NamesAct h by = by ≢ 0 → IsAct h by

abbrev pub IsMessageReady : List Note → Message → Type 0
IsMessageReady h (messages.App app) = NamesAct h app.by
IsMessageReady h message = Unit {0}

-- who asked, and who was asked, is a neighbour
pub record IsPollReady (scene : SceneModel) (p : NodeId) (b : Poll) : Type 0 where
  pub parent : IfSome b.parent (λ asker. AreNeighbours scene p asker.node)
  pub asked : (q : NodeId) → Contains b.asked q → AreNeighbours scene p q

abbrev pub IsPhaseReady : SceneModel → NodeId → Phase → Type 0
IsPhaseReady scene p phase = IfSome (poll_in phase) (IsPollReady scene p)

-- a kept message has come from a neighbour
pub record IsKeptReady (scene : SceneModel) (h : List Note) (p : NodeId) (x : NodeId × AppMessage) : Type 0 where
  pub from : AreNeighbours scene p x.0
  pub names : NamesAct h x.1.by

pub record IsLiveReady (scene : SceneModel) (h : List Note) (made : ℕ) (p : NodeId) (n : Live) : Type 0 where
  pub body : IsBodyReady (role_of scene p).script (length h) p n.body
  pub count : n.count ≤ made
  pub phase : IsPhaseReady scene p n.phase
  pub kept : (x : NodeId × AppMessage) → Contains n.kept x → IsKeptReady scene h p x

abbrev pub IsNodeReady : SceneModel → List Note → ℕ → NodeId → Node → Type 0
IsNodeReady scene h made p Down = Unit {0}
IsNodeReady scene h made p (Alive n) = IsLiveReady scene h made p n

pub record IsReady (s : State) : Type 0 where
  pub scene : IsScene s.scene
  pub scripts : AreShort s.scene
  pub rows : length s.nodes ≡ row_count
  pub counts : length s.own ≡ row_count
  pub there : (p : NodeId) → is_some (node s p) ≡ is_node s.scene p
  pub nodes : (p : NodeId) → IfSome (node s p) (IsNodeReady s.scene s.history s.made p)
  pub few_steps : s.made ≤ MAX_STEPS
  pub few_own : (k : ℕ) → at 0 s.own k ≤ s.made
  pub few_notes : length s.history ≤ MAX_NOTES
  -- a step makes one note at most
  pub few_made : s.found ≡ None → length s.history ≤ s.made
  pub causes : CausesComeFirst s.history
  pub messages : (k : ℕ) (m : Message) → Contains (at [] s.links k) m → IsMessageReady s.history m

-- the plan can be carried out: its node has a row and can change so, it sends to neighbours alone, and notes what may
-- follow
pub record CanApply (s : State) (p : NodeId) (plan : Plan) : Type 0 where
  pub row : node_index p < row_count
  pub send : AllByRecursion (λ m. AreNeighbours s.scene p m.0) plan.send
  pub change : CanChange (view s p).node plan.change
  pub note : IfSome plan.note (MayFollow s.history)
  pub own : IfSome plan.note (λ note. node_of note ≡ p)
