-- What is ready stays so behind one step more and one note more.
-- Cited by Good, GoodActs, GoodAsks, Leaves, Placed, PlacedActs.
use Rattle.std.proofs.Common.{◌≡◌, ℕ, suc, ◌+◌, ◌≤◌, List, [], ◌∷◌, ◌++◌, length, Option, None, Some, ap, ◌∙◌, arith, length-append}
use Rattle.std.specs.Prelude.{IfSome}
use Rattle.kt_tuple.specs.declared.node.NodeId.{NodeId}
use Rattle.kt_tuple.specs.declared.node.NodeId.TheVariants as ids
use Rattle.kt_history.specs.declared.note.Act.{Act}
use Rattle.kt_history.specs.declared.note.Note.{Note}
use Rattle.kt_history.specs.declared.note.Note.TheVariants as notes
use Rattle.kt_history.specs.Log.{note_at, IsAct}
use Rattle.kt_history.specs.WellFormed.{MayFollow, CausesComeFirst}
use Rattle.kt_history.proofs.Shared.{note_at-old, note_at-new, note_at-within, CausesComeFirst-push}
use Rattle.kt_script.specs.declared.command.Command.{Command}
use Rattle.kt_state.specs.declared.message.Message.{Message}
use Rattle.kt_state.specs.declared.message.Message.TheVariants as messages
use Rattle.kt_state.specs.declared.message.AppMessage.{AppMessage}
use Rattle.kt_state.specs.Node.{Body, IsWorker, IsShard, Live, Node, Down, Alive}
use Rattle.kt_scenario.specs.Scene.{SceneModel}
use Rattle.kt_model.specs.State.{role_of}
use Rattle.kt_model.specs.Effect.{noted}
use Rattle.kt_model.specs.auxiliary.Ready.{IsBodyReady, NamesAct, IsMessageReady, IsKeptReady, IsLiveReady, IsNodeReady}

pub act-noted : (h : List Note) (note : Option Note) (n : ℕ) → IsAct h n → IsAct (noted h note) n
act-noted h None n a = a
act-noted h (Some x) n a = (a.0, note_at-old h (x ∷ []) n (note_at-within h n (notes.Act a.0) a.1).1 ∙ a.1)

pub names-noted : (h : List Note) (note : Option Note) (by : ℕ) → NamesAct h by → NamesAct (noted h note) by
names-noted h note by names some = act-noted h note by (names some)

pub message-noted : (h : List Note) (note : Option Note) (m : Message) → IsMessageReady h m → IsMessageReady (noted h note) m
message-noted h one (messages.App app) is = names-noted h one app.by is
message-noted h one (messages.CheckAsk ask) is = tt
message-noted h one (messages.RollAsk ask) is = tt
message-noted h one (messages.Vote vote) is = tt
message-noted h one (messages.Verdict instance agreed) is = tt

pub kept-noted : (scene : SceneModel) (h : List Note) (note : Option Note) (p : NodeId) (x : NodeId × AppMessage) → IsKeptReady scene h p x
    → IsKeptReady scene (noted h note) p x
kept-noted scene h note p x is = record { from = is.from; names = names-noted h note x.1.by is.names }

pub body-grown : (script : List Command) (made more : ℕ) (p : NodeId) (b : Body) → made ≤ more → IsBodyReady script made p b → IsBodyReady script more p b
body-grown script made more (ids.Worker n) (IsWorker x) le is = is
body-grown script made more (ids.Worker n) (IsShard y) le is = is
body-grown script made more (ids.Shard n) (IsWorker x) le is = is
body-grown script made more (ids.Shard n) (IsShard y) le is = omega (arith, le, is)

-- a history with a note more, or none, is no shorter
pub long-noted : (h : List Note) (note : Option Note) → length h ≤ length (noted h note)
long-noted h None = omega arith
long-noted h (Some note) = omega (arith, length-append h (note ∷ []))

pub live-grown : (scene : SceneModel) (h : List Note) (note : Option Note) (made : ℕ) (p : NodeId) (n : Live) → IsLiveReady scene h made p n
    → IsLiveReady scene (noted h note) (made + 1) p n
live-grown scene h note made p n is = record {
  body = body-grown (role_of scene p).script (length h) (length (noted h note)) p n.body (long-noted h note) is.body;
  count = let few = is.count in omega (arith, few);
  phase = is.phase;
  kept = λ x c. kept-noted scene h note p x (is.kept x c);
}

pub node-grown : (scene : SceneModel) (h : List Note) (note : Option Note) (made : ℕ) (p : NodeId) (x : Node) → IsNodeReady scene h made p x
    → IsNodeReady scene (noted h note) (made + 1) p x
node-grown scene h one made p Down is = tt
node-grown scene h one made p (Alive n) is = live-grown scene h one made p n is

pub row-grown : (scene : SceneModel) (h : List Note) (note : Option Note) (made : ℕ) (p : NodeId) (row : Option Node) → IfSome row (IsNodeReady scene h made p)
    → IfSome row (IsNodeReady scene (noted h note) (made + 1) p)
row-grown scene h one made p None is = tt
row-grown scene h one made p (Some x) is = node-grown scene h one made p x is

-- the next note's act is named by its number
pub next-act : (h : List Note) (a : Act) → IsAct (h ++ notes.Act a ∷ []) (length h + 1)
next-act h a = let is : length h + 1 ≡ suc (length h) = omega arith in (a, ap (note_at (h ++ notes.Act a ∷ [])) is ∙ note_at-new h (notes.Act a))

pub noted-causes : (h : List Note) (note : Option Note) → CausesComeFirst h → IfSome note (MayFollow h) → CausesComeFirst (noted h note)
noted-causes h None causes may = causes
noted-causes h (Some note) causes may = CausesComeFirst-push h note causes may

pub length-noted : (h : List Note) (note : Option Note) → length (noted h note) ≤ length h + 1
length-noted h None = omega arith
length-noted h (Some note) = omega (arith, length-append h (note ∷ []))
