-- A plan that cuts its node's log keeps a state sound where what the node becomes and what is stored suit what is left.
-- Cited by FailLeaves, RollLeaves, StaysBacked; other crates.
use Rattle.std.proofs.Common.{◌≡◌, ℕ, ◌+◌, ◌≤◌, Bool, true, false, if◌then◌else◌, List, [], ◌∷◌, ◌++◌, length}
use Rattle.std.proofs.Common.{take, Contains, Option, Some, None, Result, Ok, Err, refl, sym, ap, subst, arith}
use Rattle.std.specs.Option.{option_map}
use Rattle.std.proofs.lemmas.List.{length-take-le}
use Rattle.kt_tuple.specs.declared.node.NodeId.{NodeId}
use Rattle.kt_history.specs.declared.note.Act.{Act}
use Rattle.kt_history.specs.declared.note.Note.{Note}
use Rattle.kt_history.specs.declared.note.Note.TheVariants as notes
use Rattle.kt_history.specs.Closed.{acts_in_log}
use Rattle.kt_history.proofs.Shared.{acts_in_log-own_cut, Contains-none}
use Rattle.kt_ckpt.specs.declared.ckpt.Ckpt.{Ckpt}
use Rattle.kt_ckpt.specs.Header.{header_of}
use Rattle.kt_store.specs.declared.rows.NodeRow.{NodeRow}
use Rattle.kt_store.specs.declared.rows.Tentative.{Tentative}
use Rattle.kt_store.specs.declared.rows.Verdict.{Verdict}
use Rattle.kt_store.specs.Content.{verdict_on}
use Rattle.kt_state.specs.declared.message.Message.{Message}
use Rattle.kt_state.specs.declared.message.AppMessage.{AppMessage}
use Rattle.kt_state.specs.declared.live.Phase.TheVariants as phases
use Rattle.kt_state.specs.declared.change.Change.{Change}
use Rattle.kt_state.specs.declared.plan.Write.{Write}
use Rattle.kt_state.specs.declared.refusal.Refusal.{Refusal}
use Rattle.kt_state.specs.declared.refusal.Refusal.TheVariants as refusals
use Rattle.kt_state.specs.declared.stored.Stored.{Stored}
use Rattle.kt_state.specs.Node.{Body, Live, Node, Down}
use Rattle.kt_state.specs.State.{body_at}
use Rattle.kt_node.specs.View.{View}
use Rattle.kt_state.specs.Stored.{acts_in, fits}
use Rattle.kt_node.specs.Loading.{load}
use Rattle.kt_state.specs.Loading.{loaded_by, loaded_from, header_in}
use Rattle.kt_node.specs.Learning.{cut_of}
use Rattle.kt_state.specs.Updating.{changed}
use Rattle.kt_scenario.specs.Scene.{SceneModel}
use Rattle.kt_model.specs.State.{State, node, role_of}
use Rattle.kt_model.specs.Writing.{content_after}
use Rattle.kt_model.specs.Cut.{acts_held}
use Rattle.kt_model.specs.Like.{IsNotNo}
use Rattle.kt_model.proofs.Sound.{KeepsSo, EndsDown, IsStored, IsNodeSound, NodeSoundIn, SendWell}
use Rattle.kt_model.proofs.NoteSound.{log-long}
use Rattle.kt_model.proofs.Writes.{own-row}
use Rattle.kt_model.proofs.Noes.{SaysNoYes, noes-stay}
use Rattle.kt_model.proofs.Applying.{Keeps}
use Rattle.kt_model.proofs.StoredFronts.{stored-cut}
use Rattle.kt_model.proofs.Scene.{role-id}
use Rattle.kt_model.proofs.Updates.{row_then}

-- the node p as it becomes and as it is stored suits the first so many acts of its log
abbrev pub CutSound : State → NodeId → ℕ → Option Write → Node → Type 0
CutSound s p keep write becomes =
    IsNodeSound s.scene (s.history ++ notes.Cut p keep ∷ []) p (take keep (acts_in_log s.history p)) (Some becomes) (row_then s p write).permanent
    (row_then s p write).tentative
    (verdict_on (content_after p write s.content) (row_then s p write).tentative)

own_cut_keeps : (s : State) (p : NodeId) (keep : ℕ) (change : Change) (send : List (NodeId × Message)) (write : Option Write) (becomes : Node)
    → option_map (changed change) (node s p) ≡ Some becomes → keep ≤ length (acts_in_log s.history p)
    → SendWell s.scene.shards (s.history ++ notes.Cut p keep ∷ []) p send
    → SaysNoYes s.content write → CutSound s p keep write becomes
    → Keeps s p (record { change = change; send = send; note = Some (notes.Cut p keep); write = write })
own_cut_keeps s p keep change send write becomes is short well says sound = record {
  may = (refl, let long = log-long s.history p in omega (arith, long, short));
  sends = well;
  noes = noes-stay p write s.content says;
  sound = subst Of (sym is) (subst Row (sym (own-row p write s.content)) (subst Acts (sym (acts_in_log-own_cut s.history p keep)) sound));
}
  where
    Of : Option Node → Type 0
    Of row = NodeSoundIn s.scene (s.history ++ notes.Cut p keep ∷ []) (content_after p write s.content) p row

    Row : NodeRow → Type 0
    Row row =
        IsNodeSound s.scene (s.history ++ notes.Cut p keep ∷ []) p (acts_in_log (s.history ++ notes.Cut p keep ∷ []) p)
        (Some becomes) row.permanent row.tentative
        (verdict_on (content_after p write s.content) row.tentative)

    Acts : List Act → Type 0
    Acts l = IsNodeSound s.scene (s.history ++ notes.Cut p keep ∷ []) p l (Some becomes) (row_then s p write).permanent (row_then s p write).tentative
        (verdict_on (content_after p write s.content) (row_then s p write).tentative)

pub cut_keeps : (s : State) (p : NodeId) (keep : ℕ) (change : Change) (send : List (NodeId × Message)) (write : Option Write) (becomes : Node)
    → option_map (changed change) (node s p) ≡ Some becomes → keep ≤ length (acts_in_log s.history p)
    → SendWell s.scene.shards (s.history ++ notes.Cut p keep ∷ []) p send
    → SaysNoYes s.content write → CutSound s p keep write becomes
    → Keeps s p (record { change = change; send = send; note = cut_of (role_of s.scene p).id keep; write = write })
cut_keeps s p keep change send write becomes is short well says sound =
    let By : NodeId → Type 0 = λ q. Keeps s p (record { change = change; send = send; note = cut_of q keep; write = write }) in
    subst By (sym (role-id s.scene p)) (own_cut_keeps s p keep change send write becomes is short well says sound)

-- ---- what is left of a log

-- the acts of a stored checkpoint, as its header says
pub held_header : (o : Option Ckpt) → acts_in (option_map header_of o) ≡ acts_held o
held_header None = refl
held_header (Some c) = refl

-- a node that is down, its log cut to so many acts
pub fallen : (scene : SceneModel) (h : List Note) (p : NodeId) (acts : List Act) (old : Option Ckpt) (taken : Option Tentative) (verdict : Option Verdict)
    (keep : ℕ)
    → IsStored scene p acts old taken verdict → acts_held old ≤ keep → keep ≤ length acts
    → (IsNotNo verdict → (t : Tentative) → taken ≡ Some t → t.checkpoint.line_len ≤ keep)
    → EndsDown keep (acts_held old) verdict taken → IsNodeSound scene h p (take keep acts) (Some Down) old taken verdict
fallen scene h p acts old taken verdict keep stored low high behind ends = record {
  like = tt;
  kept = tt;
  stored = stored-cut scene p acts keep old taken verdict low high behind stored;
  ends = let Long : ℕ → Type 0 = λ long. EndsDown long (acts_held old) verdict taken in subst Long (sym (length-take-le keep acts high)) ends;
}

-- ---- what is loaded

pub record IsLoaded (scene : SceneModel) (p : NodeId) (stored : Option Ckpt) (live : Live) : Type 0 where
  pub body : Body
  pub is_body : body_at (role_of scene p) stored ≡ Ok body
  pub works : live.body ≡ body
  pub empty : live.kept ≡ []
  pub up : live.phase ≡ phases.Up

loaded-as : (scene : SceneModel) (p : NodeId) (stored : Option Ckpt) (incarnation : ℕ) (r : Result Body Refusal) (live : Live)
    → body_at (role_of scene p) stored ≡ r
    → loaded_by stored incarnation r ≡ Ok live → IsLoaded scene p stored live
loaded-as scene p stored incarnation (Err refusal) live is e = absurd cc
loaded-as scene p None incarnation (Ok body) live is e =
    let same : loaded_from None incarnation body ≡ live = cc in
    record {
      body = body;
      is_body = is;
      works = ap (λ (n : Live). n.body) (sym same);
      empty = ap (λ (n : Live). n.kept) (sym same);
      up = ap (λ (n : Live). n.phase) (sym same);
    }
loaded-as scene p (Some c) incarnation (Ok body) live is e =
    let same : loaded_from (Some c) incarnation body ≡ live = cc in
    record {
      body = body;
      is_body = is;
      works = ap (λ (n : Live). n.body) (sym same);
      empty = ap (λ (n : Live). n.kept) (sym same);
      up = ap (λ (n : Live). n.phase) (sym same);
    }

pub loaded : (scene : SceneModel) (p : NodeId) (v : View) (stored : Stored) (live : Live) → v.role ≡ role_of scene p → load v stored ≡ Ok live
    → IsLoaded scene p stored.permanent live
loaded scene p v stored live role e = by (fits v.role v.line_len (header_in stored)) e
  where
    by : (b : Bool) → (if b then loaded_by stored.permanent (stored.incarnation + 1) (body_at v.role stored.permanent) else Err refusals.Damaged) ≡ Ok live
        → IsLoaded scene p stored.permanent live
    by true e =
        loaded-as scene p stored.permanent (stored.incarnation + 1) (body_at v.role stored.permanent) live (ap (λ r. body_at r stored.permanent) (sym role)) e
    by false e = absurd cc

-- nothing is kept by what was loaded
pub loaded_so : (shards : ℕ) (h : List Note) (p : NodeId) (kept : List (NodeId × AppMessage)) → kept ≡ [] → KeepsSo shards h p kept
loaded_so shards h p kept empty x c = absurd (Contains-none x (subst (λ l. Contains l x) empty c))
