-- A world that goes on from what a store holds, whatever that is, and the state at which it is reached while it is honest.
-- Cited by `World::resume_with`, `resuming::gather`.
use Rattle.std.proofs.Common.{◌≡◌, ℕ, List, [], ◌∷◌, ◌++◌, map, Contains, Some, None, refl, sym, ap, ◌∙◌, subst}
use Rattle.std.specs.Prelude.{All, Bool, IsTrue}
use Rattle.kt_tuple.specs.declared.node.NodeId.{NodeId}
use Rattle.kt_history.specs.declared.note.Note.{Note}
use Rattle.kt_store.specs.declared.rows.NodeRow.{NodeRow}
use Rattle.kt_store.specs.Content.{Content, empty_content}
use Rattle.kt_resume.specs.declared.found.Found.{Found}
use Rattle.kt_resume.specs.Found.{content_of, row_from}
use Rattle.kt_scenario.specs.Scene.{SceneModel, IsScene}
use Rattle.kt_model.specs.Short.{AreShort}
use Rattle.kt_model.specs.Reached.{IsReached, after, resumes}
use Rattle.kt_model.specs.Resumed.{AreFit, IsFit, history_of, resumed}
use Rattle.kt_model.specs.State.{State}
use Rattle.kt_model.specs.auxiliary.Ready.{IsReady}
use Rattle.kt_model.proofs.Shared.{are-all, resumed-ready}
use Rattle.kt_core.specs.declared.machine.Machine.{Machine}
use Rattle.kt_core.specs.Resuming.{GoesOn, IsFirstUnfit, going_on}
use Rattle.kt_resume.specs.Judging.{IsFirstMisfit, IsGood}
use Rattle.kt_core.specs.declared.resuming.ResumeError.{ResumeError}
use Rattle.kt_core.specs.declared.resuming.ResumeError.TheVariants as refusals
use Rattle.kt_core.specs.auxiliary.Gathering.{AreAllFound, IsFoundUnfit, IsOfContent, IsOfSome, IsUnjudged}
use Rattle.kt_core.specs.auxiliary.Kept.{IsWorld}
use Rattle.kt_core.specs.auxiliary.Machine.{state_of}
use Rattle.kt_core.proofs.Alike.{history-same}
use Rattle.kt_core.proofs.Founds.{all-at, all-fit, all_found, first-unfit, found-alike, map-cases}

-- what was found is some content that fits
pub found-some : (scene : SceneModel) (found : List Found) (h : List Note) → All (IsGood scene (content_of found)) found
    → h ≡ history_of scene (content_of found) → IsOfSome scene h
found-some scene found h fits is = record {
  content = content_of found;
  fits = λ p held.
      let of = map-cases row_from found held.0 held.1 in
      let same : of.of.node ≡ p = ap (λ (r : NodeRow). r.node) of.is ∙ held.2 in
      subst (IsFit scene (content_of found)) same (all-at (IsGood scene (content_of found)) found of.of fits of.among).0;
  is = is;
}

-- what was found of each node of which the store holds something fits just where the content does
pub found-fits : (scene : SceneModel) (c : Content) (found : List Found) → AreAllFound c found → All (IsGood scene (content_of found)) found → AreFit scene c
found-fits scene c found all good = all-fit scene c (subst (λ (f : List Found). All (IsGood scene (content_of f)) f) all.each good)

pub found-history : (scene : SceneModel) (c : Content) (found : List Found) → AreAllFound c found → history_of scene (content_of found) ≡ history_of scene c
found-history scene c found all = ap (λ (f : List Found). history_of scene (content_of f)) all.each
    ∙ history-same scene c (content_of (all_found c)) (found-alike c)

pub found-unfit : (scene : SceneModel) (c : Content) (found : List Found) (e : ResumeError) → AreAllFound c found → IsFoundUnfit scene found e
    → (p : NodeId) → e ≡ refusals.Unfit p → IsFirstUnfit scene c p
found-unfit scene c found e all refused p is =
    let there : IsFirstMisfit scene (content_of found) found p = subst (IsFoundUnfit scene found) is refused in
    first-unfit scene c all.proper p (subst (λ (f : List Found). IsFirstMisfit scene (content_of f) f p) all.each there)

-- where nothing was judged, no node is refused
pub unjudged-unfit : (e : ResumeError) (A : Type 0) → IsUnjudged e → (p : NodeId) → e ≡ refusals.Unfit p → A
unjudged-unfit e A unjudged p is = absurd (subst IsUnjudged is unjudged)

going-ready : (scene : SceneModel) → IsScene scene → AreShort scene → (h : List Note) (found : ℕ) → IsOfSome scene h → IsReady (going_on scene h found)
going-ready scene is short h found some = subst (λ (l : List Note). IsReady (going_on scene l found)) (sym some.is) (record {
  scene = ready.scene;
  scripts = ready.scripts;
  rows = ready.rows;
  counts = ready.counts;
  there = ready.there;
  nodes = ready.nodes;
  few_steps = ready.few_steps;
  few_own = ready.few_own;
  few_notes = ready.few_notes;
  few_made = λ e. absurd (cc (e));
  causes = ready.causes;
  messages = ready.messages;
}) where
  ready : IsReady (resumed scene some.content)
  ready = resumed-ready scene is short some.content (are-all scene some.content some.fits)

-- over an honest store it is the resumed state
pub resumed-state : (m : Machine) (scene : SceneModel) (c : Content) (h : List Note) (found : ℕ) → state_of m empty_content ≡ going_on scene h found
    → IsOfContent scene c h found → state_of m c ≡ resumed scene c
resumed-state m scene c h found goes of =
    ap (λ (s : State). record s { content = c }) goes
    ∙ ap (λ (l : List Note). record (going_on scene l found) { content = c }) of.history
    ∙ ap (λ (n : ℕ). record (going_on scene (history_of scene c) n) { content = c }) of.found

pub resumed-world : (m : Machine) (scene : SceneModel) (c : Content) (honest : Bool) (h : List Note) (found : ℕ)
    → state_of m empty_content ≡ going_on scene h found
    → IsScene scene → AreShort scene → IsOfSome scene h → (IsTrue honest → IsOfContent scene c h found) → IsWorld (state_of m c) honest
unfolding after
resumed-world m scene c honest h found goes is short some of = record {
  ready = let P : State → Type 0 = IsReady in subst P (sym goes) (going-ready scene is short h found some);
  reached = λ g. record {
    start = resumed scene c;
    is_start = resumes scene c is short (of g).proper (are-all scene c (of g).fits);
    steps = [];
    leads = sym (resumed-state m scene c h found goes (of g));
  };
}

-- and whatever it holds, the world goes on from some content
pub resumed-goes : (m : Machine) (scene : SceneModel) (c : Content) (h : List Note) (found : ℕ) → state_of m empty_content ≡ going_on scene h found
    → IsOfSome scene h → GoesOn scene (state_of m c)
resumed-goes m scene c h found goes some = record {
  content = some.content;
  fits = some.fits;
  found = found;
  is = goes ∙ ap (λ (l : List Note). going_on scene l found) some.is;
}
