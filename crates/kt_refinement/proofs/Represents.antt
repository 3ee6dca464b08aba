-- Which state of the machine a state of the world stands for: node by node, link by link, instance by instance.
-- Cited by Acted, Acting, Agreeing, Answering, Beginning, BeginsCheck, Checking, Cohorts, CountsVote, Decides,
--   Denies, Dropping, Falling, Forcing, Frames, GoesOn, Hearing, Hears, Issuing, JoinsCheck, JoinsRollback, Kept,
--   Known, LearnsDown and 18 more.
use Rattle.std.proofs.Common.{◌≡◌, ◌⊎◌, ℕ, ◌*◌, Bool, true, false, List, [], ◌∷◌, ◌++◌, length, take, Contains, Option, Some, None}
use Rattle.std.specs.Prelude.{if◌then◌else◌}
use Rattle.std.specs.Option.{option_map}
use Rattle.kt_tuple.specs.declared.node.NodeId.{NodeId}
use Rattle.kt_tuple.specs.Node.{node_index, node_eq}
use Rattle.kt_history.specs.declared.note.Note.{Note}
use Rattle.kt_history.specs.Log.{log}
use Rattle.kt_link.specs.declared.label.Label.{Label as RealLabel}
use Rattle.kt_ckpt.specs.declared.ckpt.Ckpt.{Ckpt}
use Rattle.kt_ckpt.specs.Header.{header_of}
use Rattle.kt_store.specs.declared.rows.NodeRow.{NodeRow}
use Rattle.kt_store.specs.declared.rows.Tentative.{Tentative}
use Rattle.kt_store.specs.declared.rows.InstanceRow.{InstanceRow}
use Rattle.kt_store.specs.declared.rows.Purpose.{Purpose}
use Rattle.kt_store.specs.declared.rows.Purpose.TheVariants as purposes
use Rattle.kt_store.specs.declared.rows.Verdict.{Verdict as RealVerdict}
use Rattle.kt_store.specs.declared.rows.Verdict.TheVariants as verdicts
use Rattle.kt_store.specs.Content.{Content, row_of, instance_row, verdict_on}
use Rattle.kt_vote.specs.declared.asker.Asker.{Asker}
use Rattle.kt_vote.specs.declared.vote.Vote.{Vote as RealVote}
use Rattle.kt_vote.specs.Poll.{Poll, is_awaited}
use Rattle.kt_state.specs.declared.message.AppMessage.{AppMessage as RealAppMessage}
use Rattle.kt_state.specs.declared.message.Message.{Message as RealMessage}
use Rattle.kt_state.specs.declared.message.Message.TheVariants as messages
use Rattle.kt_state.specs.declared.live.Phase.{Phase}
use Rattle.kt_state.specs.declared.live.Phase.TheVariants as phases
use Rattle.kt_state.specs.Labels.{label_at}
use Rattle.kt_state.specs.Node.{Node as RealNode, Live, Down as IsDown, Alive, node_number}
use Rattle.kt_state.specs.Stored.{sent_in, received_in}
use Rattle.kt_scenario.specs.Scene.{SceneModel}
use Rattle.kt_model.specs.State.{State as World, node, link}
use Rattle.kt_model.specs.Cut.{acts_held, permanent_by}
use Rattle.kt_model.specs.auxiliary.Ready.{AreNeighbours}
use Rattle.kt_protocol.specs.Labels.{UpTo}
use Rattle.kt_protocol.specs.Logs.{IsIn, Act, top_sent, top_heard}
use Rattle.kt_protocol.specs.Machine.{Instance, Check, Rollback, Verdict, Open, Yes, No, Key, Ballot, Mode, Up, Within, Down, AppMessage, Message, App, Ask}
use Rattle.kt_protocol.specs.Machine.{Vote}
use Rattle.kt_protocol.specs.Machine.{Node, Board, State}
use Rattle.kt_protocol.proofs.Shared.{a_key, a_vote}
use Rattle.kt_refinement.proofs.Numbers.{label_of}
use Rattle.kt_refinement.proofs.Reading.{Reads}

-- ---- links

abbrev pub app_of : RealAppMessage → AppMessage
app_of app = record { by = app.by; label = label_of app.label }

-- votes and verdicts are no messages of the machine
abbrev pub carried_one : RealMessage → List Message
carried_one (messages.App app) = App (app_of app) ∷ []
carried_one (messages.CheckAsk ask) = Ask (Check ask.instance) (label_of ask.label) ask.incarnation ∷ []
carried_one (messages.RollAsk ask) = Ask (Rollback ask.instance) (label_of ask.label) ask.incarnation ∷ []
carried_one (messages.Vote vote) = []
carried_one (messages.Verdict instance agreed) = []

unfoldable pub carried : List RealMessage → List Message
carried [] = []
carried (m ∷ later) = carried_one m ++ carried later

-- a vote on its way to q was cast. It does not say what its instance is for: who counts it knows
abbrev pub WasCast : List Vote → NodeId → RealVote → Type 0
WasCast votes q v =
    IsIn (a_vote (Check v.instance) (a_key (node_index q) v.incarnation) v.yes) votes
    ⊎ IsIn (a_vote (Rollback v.instance) (a_key (node_index q) v.incarnation) v.yes) votes

-- the link from x, a node of the machine, to q
pub record LinkIs (real : List RealMessage) (q : NodeId) (votes : List Vote) (l : List Message) : Type 0 where
  pub carries : l ≡ carried real
  pub cast : (v : RealVote) → Contains real (messages.Vote v) → WasCast votes q v

-- ---- what a node does

abbrev pub asker_key : Asker → Key
asker_key a = a_key (node_index a.node) a.incarnation

-- who began an instance is told in the machine when it has voted; of a real ballot that is not said
pub record BallotIs (b : Poll) (life : ℕ) (x : Ballot) : Type 0 where
  pub parent : x.parent ≡ option_map asker_key b.parent
  pub awaited : (q : NodeId) → x.awaited (node_index q) ≡ is_awaited b q
  pub refused : x.refused ≡ b.refused
  pub voted : (a : Asker) → b.parent ≡ Some a → x.voted ≡ b.voted
  pub asks_in : b.incarnation ≡ life

pub record Votes (i : Instance) (b : Poll) (life : ℕ) (mode : Mode) : Type 0 where
  pub ballot : Ballot
  pub within : mode ≡ Within i ballot
  pub is : BallotIs b life ballot

abbrev pub PhaseIs : Phase → ℕ → Mode → Type 0
PhaseIs phases.Up life mode = mode ≡ Up
PhaseIs (phases.Held b) life mode = Votes (Check b.instance) b life mode
PhaseIs (phases.Rolling b) life mode = Votes (Rollback b.instance) b life mode

abbrev pub kept_one : NodeId → NodeId × RealAppMessage → List AppMessage
kept_one q x = if node_eq x.0 q then app_of x.1 ∷ [] else []

-- what is kept of q, of all that is kept
unfoldable pub kept_from : NodeId → List (NodeId × RealAppMessage) → List AppMessage
kept_from q [] = []
kept_from q (x ∷ later) = kept_one q x ++ kept_from q later

-- the labels of its neighbours, by their numbers, are those of the stacks
abbrev pub LabelsAre : SceneModel → NodeId → (ℕ → RealLabel) → (List Act → ℕ → Rattle.kt_protocol.specs.Labels.Label) → List Act → Type 0
LabelsAre scene p table top acts = (q : NodeId) → AreNeighbours scene p q → label_of (table (node_number q)) ≡ top acts (node_index q)

pub record LiveIs (scene : SceneModel) (p : NodeId) (n : Live) (x : Node) : Type 0 where
  pub phase : PhaseIs n.phase x.life x.mode
  pub life : n.incarnation ≡ x.life
  pub count : n.count ≡ x.count
  pub sent : LabelsAre scene p (label_at n.sent) top_sent x.log
  pub received : LabelsAre scene p (label_at n.received) top_heard x.log
  pub kept : (q : NodeId) → x.kept (node_index q) ≡ kept_from q n.kept

pub record FallenIs (x : Node) : Type 0 where
  pub mode : x.mode ≡ Down
  pub kept : (q : ℕ) → x.kept q ≡ []

-- who is not in the scene is up for ever
abbrev pub StateIs : SceneModel → NodeId → Option RealNode → Node → Type 0
StateIs scene p None x = x.mode ≡ Up
StateIs scene p (Some IsDown) x = FallenIs x
StateIs scene p (Some (Alive n)) x = LiveIs scene p n x

-- ---- what is stored

-- the checkpoint holds the first acts of the log, and these are the machine's
pub record Stands (scene : SceneModel) (h : List Note) (p : NodeId) (numbers : List ℕ) (stored : Option Ckpt) (acts : List Act) : Type 0 where
  pub reads : Reads h (take (acts_held stored) numbers) acts
  pub sent : LabelsAre scene p (sent_in (option_map header_of stored)) top_sent acts
  pub received : LabelsAre scene p (received_in (option_map header_of stored)) top_heard acts

-- the tentative checkpoint, unless its check is decided
abbrev pub undecided : Option RealVerdict → Option Tentative → Option Tentative
undecided verdict None = None
undecided None (Some t) = Some t
undecided (Some verdicts.Open) (Some t) = Some t
undecided (Some verdicts.Yes) (Some t) = None
undecided (Some verdicts.No) (Some t) = None

pub record IsTentative (scene : SceneModel) (h : List Note) (p : NodeId) (numbers : List ℕ) (t : Tentative) (tent : Option ℕ) (acts : List Act) : Type 0 where
  pub instance : tent ≡ Some t.instance
  pub whole : t.checkpoint.line_len ≡ length numbers
  pub stands : Stands scene h p numbers (Some t.checkpoint) acts

abbrev pub TentativeIs : SceneModel → List Note → NodeId → List ℕ → Option Tentative → Option ℕ → List Act → Type 0
TentativeIs scene h p numbers None tent acts = tent ≡ None
TentativeIs scene h p numbers (Some t) tent acts = IsTentative scene h p numbers t tent acts

-- ---- a node

-- the node p, with this log, as it is and as it is stored, its tentative checkpoint with this verdict
pub record NodeIs (scene : SceneModel) (h : List Note) (p : NodeId) (numbers : List ℕ) (real : Option RealNode) (row : NodeRow) (verdict : Option RealVerdict)
    (x : Node) : Type 0 where
  pub log : Reads h numbers x.log
  pub life : row.incarnation ≡ x.life
  pub state : StateIs scene p real x
  pub perm : Stands scene h p numbers (permanent_by verdict row.tentative row.permanent) x.perm
  pub tent : TentativeIs scene h p numbers (undecided verdict row.tentative) x.tent x.log
  -- an ask is answered by the stored checkpoint, which a Yes that is not learnt leaves behind
  pub lower : (q : NodeId) → AreNeighbours scene p q
      → UpTo (label_of (sent_in (option_map header_of row.permanent) (node_number q))) (top_sent x.perm (node_index q))

abbrev pub NodeIn : SceneModel → List Note → Content → NodeId → Option RealNode → Node → Type 0
NodeIn scene h c p real x = NodeIs scene h p (log h p) real (row_of c p) (verdict_on c (row_of c p).tentative) x

-- ---- the board

abbrev pub verdict_is : RealVerdict → Verdict
verdict_is verdicts.Open = Open
verdict_is verdicts.Yes = Yes
verdict_is verdicts.No = No

abbrev pub is_for : Purpose → Purpose → Bool
is_for purposes.Check purposes.Check = true
is_for purposes.Rollback purposes.Rollback = true
is_for a b = false

-- an instance of the other purpose is one that is not begun
abbrev pub verdict_as : Purpose → Option InstanceRow → Verdict
verdict_as purpose None = Open
verdict_as purpose (Some row) = if is_for purpose row.purpose then verdict_is row.verdict else Open

abbrev pub begun_as : Purpose → Option InstanceRow → Bool
begun_as purpose None = false
begun_as purpose (Some row) = is_for purpose row.purpose

pub record InstanceIs (row : Option InstanceRow) (i : ℕ) (B : Board) : Type 0 where
  pub check : B.verdict (Check i) ≡ verdict_as purposes.Check row
  pub rollback : B.verdict (Rollback i) ≡ verdict_as purposes.Rollback row
  pub check_begun : B.begun (Check i) ≡ begun_as purposes.Check row
  pub rollback_begun : B.begun (Rollback i) ≡ begun_as purposes.Rollback row

-- ---- all

pub record Represents (s : World) (c : State) : Type 0 where
  pub nodes : (p : NodeId) → NodeIn s.scene s.history s.content p (node s p) (c.node (node_index p))
  pub links : (p q : NodeId) → AreNeighbours s.scene p q → LinkIs (link s p q) q (c.node (node_index p)).votes (c.link (node_index p) (node_index q))
  pub board : (i : ℕ) → InstanceIs (instance_row s.content i) i c.board
  -- each pair of neighbours has its queue
  pub wide : length s.links ≡ 2 * (length s.scene.scripts * s.scene.shards)
