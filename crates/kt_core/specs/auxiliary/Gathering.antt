-- What is gathered of a store to go on from it.
-- Cited by Founds, Resumes, resuming.rt, `resuming::find_all`, `resuming::gather`.
use Rattle.std.specs.Prelude.{◌≡◌, ℕ, ◌-◌, Bool, true, is_some, Option, None, Some, Result, Ok, Err, IfOk, IfErr}
use Rattle.std.specs.Prelude.{IsTrue}
use Rattle.std.specs.Prelude.{List, map}
use Rattle.std.specs.Option.{option_map}
use Rattle.kt_tuple.specs.declared.node.NodeId.{NodeId}
use Rattle.kt_store.specs.Calls.{Counts, NeverFails}
use Rattle.kt_history.specs.declared.note.Note.{Note}
use Rattle.kt_store.specs.Content.{Content, next_instance, nodes_in, instance_row, row_of}
use Rattle.kt_store.specs.Proper.{IsProper}
use Rattle.kt_store.specs.declared.rows.Tentative.{Tentative}
use Rattle.kt_store.specs.declared.store.CkptStore.{Ghosts}
use Rattle.kt_scenario.specs.Scene.{SceneModel}
use Rattle.kt_model.specs.Cut.{permanent_of}
use Rattle.kt_model.specs.Resumed.{AreFit, history_of}
use Rattle.kt_resume.specs.declared.found.Found.{Found}
use Rattle.kt_resume.specs.Found.{content_of}
use Rattle.kt_resume.specs.Judging.{IsFirstMisfit}
use Rattle.kt_core.specs.declared.resuming.ResumeError.{ResumeError}
use Rattle.kt_core.specs.declared.resuming.ResumeError.TheVariants as refusals
use Rattle.kt_core.specs.Resuming.{IsResumeCause, resuming_counted}

-- the instance of the node's tentative checkpoint, if it has one
abbrev pub instance_in : Content → NodeId → Option ℕ
instance_in c p = option_map (λ (t : Tentative). t.instance) (row_of c p).tentative

abbrev pub stands_on : Content → Option ℕ → Bool
stands_on c None = true
stands_on c (Some i) = is_some (instance_row c i)

-- what the store holds of the node
abbrev pub found_in : Content → NodeId → Found
found_in c p = record {
  node = p;
  incarnation = (row_of c p).incarnation;
  checkpoint = permanent_of c p;
  has_instance_row = stands_on c (instance_in c p);
}

-- this is what a store holds of each node that it holds anything of; its rows are in order
pub record AreAllFound (c : Content) (found : List Found) : Type 0 where
  pub each : found ≡ map (found_in c) (nodes_in c)
  pub proper : IsProper c

-- what the store's refusal leaves of its counts; want of memory that the store was not asked for leaves them
abbrev pub gathering_counted : {T : Type 0} → Result T ResumeError → Counts → Counts
gathering_counted (Ok x) before = before
gathering_counted (Err cause) before = resuming_counted cause before

-- what was gathered is of what an honest store holds, which stays as it was
pub record IsGatheredBy {S T : Type 0} (kind : Ghosts S) (old new : S) (Says : Content → T → Type 0)
    (result : Result T ResumeError) : Type 0 where
  pub value : IsTrue (kind.is_honest new) → IfOk result (Says (kind.content old))
  pub same : IsTrue (kind.is_honest new) → kind.content new ≡ kind.content old
  pub honest : IsTrue (kind.is_honest new) → IsTrue (kind.is_honest old)
  pub lasts : NeverFails kind.failures → IsTrue (kind.is_honest old) → IsTrue (kind.is_honest new)
  pub counts : kind.counts new ≡ gathering_counted result (kind.counts old)
  pub cause : IfErr result (IsResumeCause (kind.is_honest new))

-- this is the history of some content that fits the scene
pub record IsOfSome (scene : SceneModel) (history : List Note) : Type 0 where
  pub content : Content
  pub fits : AreFit scene content
  pub is : history ≡ history_of scene content

-- a world can go on from the content so
pub record IsOfContent (scene : SceneModel) (c : Content) (notes : List Note) (most : ℕ) : Type 0 where
  pub fits : AreFit scene c
  pub proper : IsProper c
  pub history : notes ≡ history_of scene c
  pub found : most ≡ next_instance c - 1

-- what was found is refused as unfit only for the first that does not fit
abbrev pub IsFoundUnfit : SceneModel → List Found → ResumeError → Type 0
IsFoundUnfit scene found (refusals.Unfit p) = IsFirstMisfit scene (content_of found) found p
IsFoundUnfit scene found (refusals.Store refusal) = ⊥
IsFoundUnfit scene found refusals.OutOfMemory = Unit {0}

-- nothing was judged: no node is refused
abbrev pub IsUnjudged : ResumeError → Type 0
IsUnjudged (refusals.Unfit p) = ⊥
IsUnjudged cause = Unit {0}
