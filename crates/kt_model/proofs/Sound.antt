-- Sound states: the history is legal and well-formed, each message carries what its act says, and of each node what it
-- works with and what is stored of it are like what its log, or the front of it, makes of it.
-- Cited by ActKeeps, ActLeaves, Applying, CheckLeaves, Cutting, FailLeaves, Fit, Following, Gives, Headlines,
--   HeldActs, Holding, Kept, Lasting, LogsAfter, Noes, NoteSound, OpenedSound, PermanentPart, QuietLeaves, Resuming,
--   RollLeaves, Shaped, ShardPlans and 5 more; other crates.
use Rattle.std.proofs.Common.{◌≡◌, ℕ, ◌≤◌, List, length, Contains, Option, Some, None}
use Rattle.std.specs.Prelude.{IfSome}
use Rattle.std.specs.List.{AllByRecursion}
use Rattle.kt_tuple.specs.declared.node.NodeId.{NodeId}
use Rattle.kt_tuple.specs.declared.node.NodeId.TheVariants as ids
use Rattle.kt_tuple.specs.declared.op.Answer.{Answer}
use Rattle.kt_tuple.specs.Signature.{kinds_of_op, shard_of}
use Rattle.kt_history.specs.declared.note.Act.{Act}
use Rattle.kt_history.specs.declared.note.Note.{Note}
use Rattle.kt_history.specs.declared.note.Note.TheVariants as notes
use Rattle.kt_history.specs.Log.{note_at}
use Rattle.kt_history.specs.Closed.{acts_in_log}
use Rattle.kt_history.specs.WellFormed.{IsAsking, IsAnswering, Fits, IsWellFormed}
use Rattle.kt_script.specs.declared.command.Command.{Command}
use Rattle.kt_shard.specs.declared.request.Request.{Request}
use Rattle.kt_ckpt.specs.declared.ckpt.Ckpt.{Ckpt}
use Rattle.kt_store.specs.declared.rows.Tentative.{Tentative}
use Rattle.kt_store.specs.declared.rows.Verdict.{Verdict}
use Rattle.kt_store.specs.declared.rows.Verdict.TheVariants as verdicts
use Rattle.kt_store.specs.Content.{Content, row_of, verdict_of, verdict_on}
use Rattle.kt_state.specs.declared.message.Talk.{Talk}
use Rattle.kt_state.specs.declared.message.Talk.TheVariants as talks
use Rattle.kt_state.specs.declared.message.AppMessage.{AppMessage}
use Rattle.kt_state.specs.declared.message.Message.{Message}
use Rattle.kt_state.specs.declared.message.Message.TheVariants as messages
use Rattle.kt_state.specs.declared.live.Phase.{Phase}
use Rattle.kt_state.specs.declared.live.Phase.TheVariants as phases
use Rattle.kt_state.specs.Node.{Node, Down, Alive}
use Rattle.kt_scenario.specs.Scene.{SceneModel}
use Rattle.kt_model.specs.State.{State, node, link}
use Rattle.kt_model.specs.Asks.{setting_of}
use Rattle.kt_model.specs.Cut.{acts_held}
use Rattle.kt_model.specs.Like.{IsBodyLike, HoldsFront, IsNotNo}
use Rattle.kt_logs.specs.Legal.{AreLegal}
use Rattle.kt_logs.proofs.Shared.{MayMake}

-- ---- what a node works with

-- what an alive node works with is like what its acts make of it
abbrev pub IsNodeLike : List (List Command) → NodeId → List Act → Option Node → Type 0
IsNodeLike scripts p acts None = Unit {0}
IsNodeLike scripts p acts (Some Down) = Unit {0}
IsNodeLike scripts p acts (Some (Alive n)) = IsBodyLike scripts p acts n.body

-- ---- messages

-- by names an act of the worker w that asks for the request, and s is the home of the request's tuples
pub record IsRequestOf (shards : ℕ) (h : List Note) (w s : ℕ) (request : Request) (by : ℕ) : Type 0 where
  pub act : Act
  pub is_act : note_at h by ≡ Some (notes.Act act)
  pub own : act.node ≡ ids.Worker w
  pub asking : IsAsking act.what
  pub worker : act.worker ≡ w
  pub number : act.number ≡ request.number
  pub op : act.op ≡ request.op
  pub home : shard_of shards (kinds_of_op request.op) ≡ s

-- by names an act of the shard s that answers the request of the worker w so
pub record IsReplyOf (h : List Note) (s w : ℕ) (request : Request) (answer : Answer) (by : ℕ) : Type 0 where
  pub act : Act
  pub is_act : note_at h by ≡ Some (notes.Act act)
  pub own : act.node ≡ ids.Shard s
  pub answering : IsAnswering act.what answer
  pub worker : act.worker ≡ w
  pub number : act.number ≡ request.number
  pub op : act.op ≡ request.op

-- what is said from p to q by this act is what the act says, and goes where it belongs
abbrev pub SaysSo : ℕ → List Note → NodeId → NodeId → Talk → ℕ → Type 0
SaysSo shards h (ids.Worker w) (ids.Shard s) (talks.Request request) by = IsRequestOf shards h w s request by
SaysSo shards h (ids.Worker w) (ids.Shard s) (talks.Reply request answer) by = ⊥
SaysSo shards h (ids.Shard s) (ids.Worker w) (talks.Request request) by = ⊥
SaysSo shards h (ids.Shard s) (ids.Worker w) (talks.Reply request answer) by = IsReplyOf h s w request answer by
SaysSo shards h (ids.Worker w) (ids.Worker v) talk by = ⊥
SaysSo shards h (ids.Shard s) (ids.Shard r) talk by = ⊥

-- an underlying message from p to q carries what its act says
abbrev pub Carries : ℕ → List Note → NodeId → NodeId → Message → Type 0
Carries shards h p q (messages.App app) = SaysSo shards h p q app.talk app.by
Carries shards h p q _ = Unit {0}

-- so does each message that p keeps
abbrev pub KeepsSo : ℕ → List Note → NodeId → List (NodeId × AppMessage) → Type 0
KeepsSo shards h p kept = (x : NodeId × AppMessage) → Contains kept x → SaysSo shards h x.0 p x.1.talk x.1.by

abbrev pub AreKept : ℕ → List Note → NodeId → Option Node → Type 0
AreKept shards h p None = Unit {0}
AreKept shards h p (Some Down) = Unit {0}
AreKept shards h p (Some (Alive n)) = KeepsSo shards h p n.kept

-- ---- what is stored

-- the tentative checkpoint holds no less than the permanent one
pub record IsTentative (scene : SceneModel) (p : NodeId) (acts : List Act) (permanent : Option Ckpt) (c : Ckpt) : Type 0 where
  pub front : HoldsFront scene p acts (Some c)
  pub behind : acts_held permanent ≤ c.line_len

pub record IsStored (scene : SceneModel) (p : NodeId) (acts : List Act) (old : Option Ckpt) (taken : Option Tentative) (verdict : Option Verdict) : Type 0 where
  pub permanent : HoldsFront scene p acts old
  pub tentative : IsNotNo verdict → IfSome taken (λ t. IsTentative scene p acts old t.checkpoint)

-- a node that is down ends where what it will go on from ends
abbrev pub EndsDown : ℕ → ℕ → Option Verdict → Option Tentative → Type 0
EndsDown long permanent verdict None = long ≡ permanent
EndsDown long permanent verdict (Some t) = IsNotNo verdict → long ≡ t.checkpoint.line_len

-- so does one that began a rollback
abbrev pub EndsRolling : ℕ → ℕ → Phase → Type 0
EndsRolling long permanent phases.Up = Unit {0}
EndsRolling long permanent (phases.Held b) = Unit {0}
EndsRolling long permanent (phases.Rolling b) = b.parent ≡ None → long ≡ permanent

-- of a log of so many acts
abbrev pub EndsAs : ℕ → ℕ → Option Tentative → Option Verdict → Option Node → Type 0
EndsAs long permanent tentative verdict None = Unit {0}
EndsAs long permanent tentative verdict (Some Down) = EndsDown long permanent verdict tentative
EndsAs long permanent tentative verdict (Some (Alive n)) = EndsRolling long permanent n.phase

-- ---- a node, and all

-- the node p, with these acts, as it is and as it is stored
pub record IsNodeSound (scene : SceneModel) (h : List Note) (p : NodeId) (acts : List Act) (node : Option Node) (permanent : Option Ckpt)
    (tentative : Option Tentative) (verdict : Option Verdict) : Type 0 where
  pub like : IsNodeLike scene.scripts p acts node
  pub kept : AreKept scene.shards h p node
  pub stored : IsStored scene p acts permanent tentative verdict
  pub ends : EndsAs (length acts) (acts_held permanent) tentative verdict node

abbrev pub NodeSoundIn : SceneModel → List Note → Content → NodeId → Option Node → Type 0
NodeSoundIn scene h c p node =
    IsNodeSound scene h p (acts_in_log h p) node (row_of c p).permanent (row_of c p).tentative (verdict_on c (row_of c p).tentative)

pub record IsSound (s : State) : Type 0 where
  pub legal : AreLegal (setting_of s.scene) s.history
  pub well_formed : IsWellFormed s.history
  pub nodes : (p : NodeId) → NodeSoundIn s.scene s.history s.content p (node s p)
  pub carries : (p q : NodeId) (m : Message) → Contains (link s p q) m → Carries s.scene.shards s.history p q m

-- ---- what a plan has to keep

-- the node p may make this note now: none, an act that suits its log and its cause, or a cut of its own log
abbrev pub MayNote : SceneModel → List Note → NodeId → Option Note → Type 0
MayNote scene h p None = Unit {0}
MayNote scene h p (Some (notes.Act a)) = (a.node ≡ p) × MayMake (setting_of scene) p (acts_in_log h p) a × Fits h (notes.Act a)
MayNote scene h p (Some (notes.Cut q keep)) = (q ≡ p) × Fits h (notes.Cut q keep)

-- what is sent from p carries what the history says
abbrev pub SendWell : ℕ → List Note → NodeId → List (NodeId × Message) → Type 0
SendWell shards h p send = AllByRecursion (λ (m : NodeId × Message). Carries shards h p m.0 m.1) send

-- a No stays on the board
abbrev pub NoesStay : Content → Content → Type 0
NoesStay c d = (i : ℕ) → verdict_of c i ≡ Some verdicts.No → verdict_of d i ≡ Some verdicts.No
