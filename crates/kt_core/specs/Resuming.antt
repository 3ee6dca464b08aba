-- How a world is resumed, why one is not, and what that leaves.
-- Cited by Founds, Resumes, machine.rt, resuming.rt, specs/Starting, specs/auxiliary/Gathering, `resuming::gather`.
use Rattle.std.specs.Prelude.{◌≡◌, ℕ, ◌*◌, Bool, IsTrue, List, [], length, replicate, Some}
use Rattle.kt_tuple.specs.declared.node.NodeId.{NodeId}
use Rattle.kt_tuple.specs.Node.{is_before}
use Rattle.kt_store.specs.Calls.{Counts, raised_by}
use Rattle.kt_store.specs.Content.{Content, empty_content}
use Rattle.kt_history.specs.declared.note.Note.{Note}
use Rattle.kt_shard.specs.Limits.{sessions}
use Rattle.kt_model.specs.Limits.{rows}
use Rattle.kt_scenario.specs.Scene.{SceneModel}
use Rattle.kt_model.specs.Resumed.{AreFit, IsFit, IsHeld, down_rows, history_of}
use Rattle.kt_model.specs.State.{State}
use Rattle.kt_core.specs.declared.resuming.ResumeError.{ResumeError}
use Rattle.kt_core.specs.declared.resuming.ResumeError.TheVariants as refusals
use Rattle.kt_core.specs.Store.{IsFault, StoreValue}
use Rattle.kt_core.specs.World.{beside}

-- all nodes are down after this history, where instances up to this number were found, and no step was made; what the
-- store holds is left aside
abbrev pub going_on : SceneModel → List Note → ℕ → State
going_on scene history found = record {
  scene = scene;
  nodes = down_rows scene sessions;
  links = replicate (2 * (length scene.scripts * scene.shards)) [];
  content = empty_content;
  history = history;
  own = replicate rows 0;
  made = 0;
  found = Some found;
}

-- the world goes on from some content that fits the scene, whatever its store holds
pub record GoesOn (scene : SceneModel) (s : State) : Type 0 where
  pub content : Content
  pub fits : AreFit scene content
  pub found : ℕ
  pub is : beside s ≡ going_on scene (history_of scene content) found

-- the store holds something of p that does not fit, and what it holds of each node before p fits
pub record IsFirstUnfit (scene : SceneModel) (c : Content) (p : NodeId) : Type 0 where
  pub held : IsHeld c p
  pub unfit : ¬ IsFit scene c p
  pub before : (q : NodeId) → IsHeld c q → IsTrue (is_before q p) → IsFit scene c q

-- a store's refusal for damage or for a full store comes never while it is honest
abbrev pub IsResumeCause : Bool → ResumeError → Type 0
IsResumeCause is_honest (refusals.Store refusal) = IsFault is_honest refusal
IsResumeCause is_honest cause = Unit {0}

-- what a refused resuming leaves of the store's counts: raised by the store's own refusal and by nothing else
abbrev pub resuming_counted : ResumeError → Counts → Counts
resuming_counted (refusals.Store refusal) before = raised_by refusal before
resuming_counted cause before = before

-- no world of this scene was resumed, for this cause, and the store that was given is left as it was, but for what it
-- counts
pub record IsResumeRefused (scene : SceneModel) (was left : StoreValue) (cause : ResumeError) : Type 0 where
  pub content : IsTrue left.is_honest → left.content ≡ was.content
  pub honest : IsTrue left.is_honest → IsTrue was.is_honest
  pub counts : left.counts ≡ resuming_counted cause was.counts
  pub why : IsResumeCause left.is_honest cause
  pub unfit : (p : NodeId) → cause ≡ refusals.Unfit p → IsTrue left.is_honest → IsFirstUnfit scene was.content p
