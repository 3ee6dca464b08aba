-- What is stored stays at the front of a log that grows, or that is cut behind it.
-- Cited by ActKeeps, CheckLeaves, Cutting, RollLeaves.
use Rattle.std.proofs.Common.{◌≡◌, ℕ, ◌≤◌, List, [], ◌∷◌, ◌++◌, length, take, Option, Some, None, Ok, refl, sym, ap, ◌∙◌, subst, arith, length-append}
use Rattle.std.specs.Prelude.{IfSome}
use Rattle.std.proofs.lemmas.List.{take-append-le, take-take, length-take-le}
use Rattle.kt_tuple.specs.declared.node.NodeId.{NodeId}
use Rattle.kt_history.specs.declared.note.Act.{Act}
use Rattle.kt_ckpt.specs.declared.ckpt.Ckpt.{Ckpt}
use Rattle.kt_store.specs.declared.rows.Tentative.{Tentative}
use Rattle.kt_store.specs.declared.rows.Verdict.{Verdict}
use Rattle.kt_ckpt.specs.declared.state.State.{State as SavedState}
use Rattle.kt_state.specs.Node.{Body, opening_body}
use Rattle.kt_state.specs.State.{body_at, body_fields, body_from}
use Rattle.kt_scenario.specs.Scene.{SceneModel, IsScene}
use Rattle.kt_model.specs.State.{role_of}
use Rattle.kt_model.proofs.Saved.{loaded_like}
use Rattle.kt_model.proofs.Scene.{role-id}
use Rattle.kt_model.specs.Cut.{acts_held}
use Rattle.kt_model.specs.Like.{IsBodyLike, HoldsFront, IsNotNo}
use Rattle.kt_model.proofs.Sound.{IsTentative, IsStored}

-- a front stays where the log begins with the same acts
front-kept : (scene : SceneModel) (p : NodeId) (acts new : List Act) (stored : Option Ckpt) → acts_held stored ≤ length new
    → take (acts_held stored) new ≡ take (acts_held stored) acts
    → HoldsFront scene p acts stored → HoldsFront scene p new stored
front-kept scene p acts new stored short same front =
    record { short = short; body = front.body; saved = front.saved; like = subst (λ l. IsBodyLike scene.scripts p l front.body) (sym same) front.like }

front-push : (scene : SceneModel) (p : NodeId) (acts : List Act) (a : Act) (stored : Option Ckpt) → HoldsFront scene p acts stored
    → HoldsFront scene p (acts ++ a ∷ []) stored
front-push scene p acts a stored front =
    let long = length-append acts (a ∷ []) in
    front-kept scene p acts (acts ++ a ∷ []) stored (omega (arith, long, front.short)) (take-append-le (acts_held stored) acts (a ∷ []) front.short) front

front-cut : (scene : SceneModel) (p : NodeId) (acts : List Act) (keep : ℕ) (stored : Option Ckpt) → acts_held stored ≤ keep → keep ≤ length acts
    → HoldsFront scene p acts stored
    → HoldsFront scene p (take keep acts) stored
front-cut scene p acts keep stored low high front =
    let long = length-take-le keep acts high in
    front-kept scene p acts (take keep acts) stored (omega (arith, long, low)) (take-take (acts_held stored) keep acts low) front

-- ---- all that is stored

tentatives : (scene : SceneModel) (p : NodeId) (acts new : List Act) (old : Option Ckpt) (taken : Option Tentative)
    → ((t : Tentative) → taken ≡ Some t → HoldsFront scene p acts (Some t.checkpoint) → HoldsFront scene p new (Some t.checkpoint))
    → IfSome taken (λ t. IsTentative scene p acts old t.checkpoint) → IfSome taken (λ t. IsTentative scene p new old t.checkpoint)
tentatives scene p acts new old None goes_on some = tt
tentatives scene p acts new old (Some t) goes_on some = record { front = goes_on t refl some.front; behind = some.behind }

pub stored-push : (scene : SceneModel) (p : NodeId) (acts : List Act) (a : Act) (old : Option Ckpt) (taken : Option Tentative) (verdict : Option Verdict)
    → IsStored scene p acts old taken verdict → IsStored scene p (acts ++ a ∷ []) old taken verdict
stored-push scene p acts a old taken verdict stored = record {
  permanent = front-push scene p acts a old stored.permanent;
  tentative =
      λ fine. tentatives scene p acts (acts ++ a ∷ []) old taken (λ t is front. front-push scene p acts a (Some t.checkpoint) front) (stored.tentative fine);
}

-- a cut behind the permanent checkpoint, and behind the tentative one where that may still count
pub stored-cut : (scene : SceneModel) (p : NodeId) (acts : List Act) (keep : ℕ) (old : Option Ckpt) (taken : Option Tentative) (verdict : Option Verdict)
    → acts_held old ≤ keep → keep ≤ length acts → (IsNotNo verdict → (t : Tentative) → taken ≡ Some t → t.checkpoint.line_len ≤ keep)
    → IsStored scene p acts old taken verdict → IsStored scene p (take keep acts) old taken verdict
stored-cut scene p acts keep old taken verdict low high behind stored = record {
  permanent = front-cut scene p acts keep old low high stored.permanent;
  tentative = λ fine. tentatives scene p acts (take keep acts) old taken
      (λ t is front. front-cut scene p acts keep (Some t.checkpoint) (behind fine t is) high front) (stored.tentative fine);
}

take-all : (xs : List Act) → take (length xs) xs ≡ xs
take-all [] = refl
take-all (x ∷ xs) = ap (λ l. x ∷ l) (take-all xs)

-- what holds all of the log
pub front-now : (scene : SceneModel) (p : NodeId) (acts : List Act) (c : Ckpt) (body : Body) → c.line_len ≡ length acts → c.state ≡ body_fields body
    → IsBodyLike scene.scripts p acts body
    → HoldsFront scene p acts (Some c)
front-now scene p acts c body long saved like = record {
  short = omega (arith, long);
  body = body;
  saved = saved;
  like = subst (λ l. IsBodyLike scene.scripts p l body) (sym (ap (λ k. take k acts) long ∙ take-all acts)) like;
}

-- ---- what is loaded

-- whatever is loaded is like what the checkpoint's acts make of the node
pub loaded-front : (scene : SceneModel) → IsScene scene → (p : NodeId) (acts : List Act) (stored : Option Ckpt) (b : Body)
    → body_at (role_of scene p) stored ≡ Ok b
    → HoldsFront scene p acts stored
    → IsBodyLike scene.scripts p (take (acts_held stored) acts) b
loaded-front scene is p acts None b e front =
    let same : opening_body (role_of scene p) (role_of scene p).id ≡ b = cc in
    subst (IsBodyLike scene.scripts p (take 0 acts)) (front.saved ∙ same) front.like
loaded-front scene is p acts (Some c) b e front =
    let Id : NodeId → Type 0 = λ q. body_from (role_of scene p) c.line_len q c.state ≡ Ok b in
    let Saved : SavedState → Type 0 = λ state. body_from (role_of scene p) c.line_len p state ≡ Ok b in
    loaded_like scene is p (take c.line_len acts) c.line_len front.body b front.like (subst Saved front.saved (subst Id (role-id scene p) e))

-- where the log ends with what is stored, it is like the log
pub loaded-whole : (scene : SceneModel) → IsScene scene → (p : NodeId) (acts : List Act) (stored : Option Ckpt) (b : Body) → length acts ≡ acts_held stored
    → body_at (role_of scene p) stored ≡ Ok b → HoldsFront scene p acts stored → IsBodyLike scene.scripts p acts b
loaded-whole scene is p acts stored b long e front =
    subst (λ l. IsBodyLike scene.scripts p l b) (ap (λ k. take k acts) (sym long) ∙ take-all acts) (loaded-front scene is p acts stored b e front)
