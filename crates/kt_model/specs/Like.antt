-- What stands in a node, or is stored of it, is like what its acts make of it: the state that the empty one reaches by
-- them, the tuples in some order.
-- Cited by ActKeeps, ActLeaves, CheckLeaves, Cutting, FailLeaves, FitBodies, Fitting, Following, Headlines, HeldActs,
--   Lasting, OpenedSound, PermanentPart, Renumbered, Resuming, RollLeaves, Saved, ShardPlans, Sound, StoredFronts,
--   Updates, WorkerPlans, laws.rt, specs/Headline and 1 more; other crates.
use Rattle.std.specs.Prelude.{◌≡◌, ℕ, ◌≤◌, false, List, [], length, take, Option, None, Some, IfSome, IsPermutation}
use Rattle.kt_tuple.specs.declared.node.NodeId.{NodeId}
use Rattle.kt_tuple.specs.declared.node.NodeId.TheVariants as ids
use Rattle.kt_history.specs.declared.note.Act.{Act}
use Rattle.kt_history.specs.declared.note.Note.{Note}
use Rattle.kt_history.specs.Closed.{acts_in_log}
use Rattle.kt_script.specs.declared.command.Command.{Command}
use Rattle.kt_worker.specs.declared.worker.Worker.{Worker}
use Rattle.kt_worker.specs.After.{IsAfter}
use Rattle.kt_shard.specs.Shard.{Shard}
use Rattle.kt_shard.specs.Table.{at}
use Rattle.kt_shard.specs.Session.{empty_session}
use Rattle.kt_ckpt.specs.declared.acts.LogAct.{LogAct}
use Rattle.kt_ckpt.specs.declared.ckpt.Ckpt.{Ckpt}
use Rattle.kt_ckpt.specs.LogActs.{log_acts}
use Rattle.kt_store.specs.declared.rows.Verdict.{Verdict}
use Rattle.kt_store.specs.declared.rows.Verdict.TheVariants as verdicts
use Rattle.kt_store.specs.Content.{row_of, verdict_on}
use Rattle.kt_logs.specs.ShardLog.{MadeShard, shard_of_acts, new_shard}
use Rattle.kt_logs.specs.WorkerLog.{MadeWorker, worker_of_acts, new_worker}
use Rattle.kt_state.specs.Node.{Role, Body, IsWorker, IsShard, opening_body}
use Rattle.kt_state.specs.State.{body_fields}
use Rattle.kt_scenario.specs.Scene.{SceneModel, script_at}
use Rattle.kt_model.specs.State.{State, role_of}
use Rattle.kt_model.specs.Asks.{script_numbered}
use Rattle.kt_model.specs.Cut.{acts_held, permanent_of}
use Rattle.kt_model.specs.Found.{has_found}

-- a worker of this script is like what its acts make of it
pub record IsWorkerLike (script : List Command) (made : MadeWorker) (x : Worker) : Type 0 where
  pub asked : x.asked ≡ made.asked
  pub after : IsAfter script made.answers x

-- a shard is like what its acts make of it: the same tuples in some order, and the same sessions, which are empty where
-- the scene has no such worker
pub record IsShardLike (scripts : List (List Command)) (made : MadeShard) (y : Shard) : Type 0 where
  pub bag : IsPermutation made.bag y.bag
  pub sessions : (w : ℕ) → at empty_session y.sessions w ≡ made.session w
  pub others : (w : ℕ) → script_at scripts w ≡ None → at empty_session y.sessions w ≡ empty_session

-- so is what the node p, whose acts these are, works with
abbrev pub IsBodyLike : List (List Command) → NodeId → List Act → Body → Type 0
IsBodyLike scripts (ids.Worker w) acts (IsWorker x) =
    IsWorkerLike (script_numbered scripts w) (worker_of_acts new_worker acts) x
IsBodyLike scripts (ids.Worker w) acts (IsShard y) = ⊥
IsBodyLike scripts (ids.Shard s) acts (IsWorker x) = ⊥
IsBodyLike scripts (ids.Shard s) acts (IsShard y) = IsShardLike scripts (shard_of_acts new_shard acts) y

-- what the node worked with is what the checkpoint has of it
abbrev pub IsSavedOf : Role → Option Ckpt → Body → Type 0
IsSavedOf role None body = body ≡ opening_body role role.id
IsSavedOf role (Some c) body = c.state ≡ body_fields body

-- the checkpoint holds the first of these acts, and was taken of what is like what those make of the node
pub record HoldsFront (scene : SceneModel) (p : NodeId) (acts : List Act) (stored : Option Ckpt) : Type 0 where
  pub short : acts_held stored ≤ length acts
  pub body : Body
  pub saved : IsSavedOf (role_of scene p) stored body
  pub like : IsBodyLike scene.scripts p (take (acts_held stored) acts) body

-- the verdict on its instance is not No
abbrev pub IsNotNo : Option Verdict → Type 0
IsNotNo verdict = ¬ (verdict ≡ Some verdicts.No)

-- the acts that a checkpoint holds; nothing stored is the beginning
abbrev pub acts_stored : Option Ckpt → List LogAct
acts_stored None = []
acts_stored (Some c) = c.acts

-- these are the first acts of the log of p, as many as the checkpoint's length says
abbrev pub HoldsActs : List Note → NodeId → Option Ckpt → Type 0
HoldsActs h p stored = acts_stored stored ≡ take (acts_held stored) (log_acts h p)

-- nothing tentative of the node was found when the world was resumed, or it is settled since
abbrev pub IsSettled : State → NodeId → Type 0
IsSettled s p = has_found s.found (row_of s.content p).tentative ≡ false

-- what counts as permanent, and, unless something tentative was found that is not settled yet, the stored permanent
-- checkpoint and the tentative one whose verdict is not No, hold the state behind the first acts of the node's log,
-- and hold these acts
pub record HoldsItsActs (s : State) (p : NodeId) : Type 0 where
  pub counts : HoldsFront s.scene p (acts_in_log s.history p) (permanent_of s.content p)
  pub counted_acts : HoldsActs s.history p (permanent_of s.content p)
  pub permanent : IsSettled s p → HoldsFront s.scene p (acts_in_log s.history p) (row_of s.content p).permanent
  pub permanent_acts : IsSettled s p → HoldsActs s.history p (row_of s.content p).permanent
  pub tentative : IsSettled s p → IsNotNo (verdict_on s.content (row_of s.content p).tentative)
      → IfSome (row_of s.content p).tentative (λ t. HoldsFront s.scene p (acts_in_log s.history p) (Some t.checkpoint))
  pub tentative_acts : IsSettled s p → IsNotNo (verdict_on s.content (row_of s.content p).tentative)
      → IfSome (row_of s.content p).tentative (λ t. HoldsActs s.history p (Some t.checkpoint))

abbrev pub StoresFollowLogs : State → Type 0
StoresFollowLogs s = (p : NodeId) → HoldsItsActs s p
