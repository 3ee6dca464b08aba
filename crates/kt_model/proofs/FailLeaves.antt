-- The plans of failures and rollbacks keep a state sound: a node fails, learns while it is down, rolls back, and
-- restarts.
-- Cited by Kept, RollLeaves, StepSound; other crates.
use Rattle.std.proofs.Common.{◌≡◌, ℕ, ◌≤◌, ◌∷◌, ◌++◌, true, List, [], length, take, Option, Some, None, refl, sym, ap, ◌∙◌, subst, arith}
use Rattle.std.specs.Prelude.{IsTrue, is_some, unwrap_or}
use Rattle.std.specs.Option.{option_map}
use Rattle.kt_tuple.specs.declared.node.NodeId.{NodeId}
use Rattle.kt_history.specs.declared.note.Act.{Act}
use Rattle.kt_history.specs.declared.note.Note.{Note}
use Rattle.kt_history.specs.declared.note.Note.TheVariants as notes
use Rattle.kt_history.specs.Closed.{acts_in_log}
use Rattle.kt_ckpt.specs.declared.ckpt.Ckpt.{Ckpt}
use Rattle.kt_ckpt.specs.Header.{header_of}
use Rattle.kt_store.specs.declared.rows.NodeRow.{NodeRow}
use Rattle.kt_store.specs.declared.rows.Tentative.{Tentative}
use Rattle.kt_store.specs.declared.rows.Verdict.{Verdict}
use Rattle.kt_store.specs.declared.rows.Verdict.TheVariants as verdicts
use Rattle.kt_store.specs.Changes.{promoted_from}
use Rattle.kt_store.specs.Content.{Content, row_of, verdict_on}
use Rattle.kt_state.specs.declared.change.Change.TheVariants as changes
use Rattle.kt_state.specs.declared.plan.Write.{Write}
use Rattle.kt_state.specs.declared.plan.Write.TheVariants as writes
use Rattle.kt_state.specs.Node.{Live, Node, Down}
use Rattle.kt_state.specs.Stored.{acts_in}
use Rattle.kt_node.specs.Learning.{promote_down_plan, discard_down_plan}
use Rattle.kt_node.specs.Deciding.{settled}
use Rattle.kt_node.specs.Failing.{fail_plan, log_left}
use Rattle.kt_state.specs.Updating.{changed}
use Rattle.kt_scenario.specs.declared.step.Step.TheVariants.{Learn}
use Rattle.kt_scenario.specs.Scene.{SceneModel, is_node}
use Rattle.kt_model.specs.auxiliary.Ready.{IsReady}
use Rattle.kt_model.specs.State.{State, node, view}
use Rattle.kt_model.specs.StoreReads.{header_in, tentative_in, stored_of, to_learn, verdict_for}
use Rattle.kt_model.specs.Writing.{content_after}
use Rattle.kt_model.proofs.Plans.{IsAlive, IsDown}
use Rattle.kt_model.specs.Cut.{acts_held}
use Rattle.kt_model.specs.Like.{HoldsFront, IsNotNo}
use Rattle.kt_model.proofs.Sound.{EndsDown, IsStored, IsNodeSound, NodeSoundIn, IsSound}
use Rattle.kt_model.proofs.Writes.{own-row}
use Rattle.kt_model.proofs.Noes.{noes-stay}
use Rattle.kt_model.proofs.Applying.{Keeps}
use Rattle.kt_model.proofs.CheckLeaves.{promoted_front}
use Rattle.kt_model.proofs.Backs.{settled-is}
use Rattle.kt_model.proofs.Cutting.{cut_keeps, held_header, fallen}

-- ---- a node fails

-- what a node that fails keeps of its log is no less than what it will go on from
record Leaves (scene : SceneModel) (h : List Note) (p : NodeId) (acts : List Act) (old : Option Ckpt) (taken : Option Tentative) (verdict : Option Verdict)
    (keep : ℕ) : Type 0 where
  short : keep ≤ length acts
  sound : IsNodeSound scene h p (take keep acts) (Some Down) old taken verdict

leaves_permanent : (scene : SceneModel) (h : List Note) (p : NodeId) (acts : List Act) (old : Option Ckpt) (taken : Option Tentative) (verdict : Option Verdict)
    (keep : ℕ) → keep ≡ acts_held old
    → IsStored scene p acts old taken verdict → (IsNotNo verdict → (t : Tentative) → taken ≡ Some t → ⊥) → Leaves scene h p acts old taken verdict keep
leaves_permanent scene h p acts old taken verdict keep is stored none = record {
  short = short;
  sound = fallen scene h p acts old taken verdict keep stored (omega (arith, is)) short (λ fine t e. absurd (none fine t e)) (ends taken none);
}
  where
    short : keep ≤ length acts
    short = omega (arith, is, stored.permanent.short)

    ends : (o : Option Tentative) → (IsNotNo verdict → (t : Tentative) → o ≡ Some t → ⊥) → EndsDown keep (acts_held old) verdict o
    ends None nothing = is
    ends (Some t) nothing = λ fine. absurd (nothing fine t refl)

leaves_tentative : (scene : SceneModel) (h : List Note) (p : NodeId) (acts : List Act) (old : Option Ckpt) (t : Tentative) (verdict : Option Verdict)
    → IsNotNo verdict
    → IsStored scene p acts old (Some t) verdict → Leaves scene h p acts old (Some t) verdict t.checkpoint.line_len
leaves_tentative scene h p acts old t verdict fine stored = record {
  short = (stored.tentative fine).front.short;
  sound = fallen scene h p acts old (Some t) verdict t.checkpoint.line_len stored (stored.tentative fine).behind (stored.tentative fine).front.short
      (λ fine x e.
      let same : x ≡ t = cc in
      let long : x.checkpoint.line_len ≡ t.checkpoint.line_len = ap (λ (y : Tentative). y.checkpoint.line_len) same in
      omega (arith, long)) (λ fine. refl);
}

leaves : (scene : SceneModel) (h : List Note) (p : NodeId) (acts : List Act) (old : Option Ckpt) (taken : Option Tentative) (verdict : Option Verdict)
    → IsStored scene p acts old taken verdict → Leaves scene h p acts old taken verdict
    (log_left verdict (option_map header_of old) (option_map header_in taken))
leaves scene h p acts old None verdict stored = leaves_permanent scene h p acts old None verdict _ (held_header old) stored (λ fine t e. cc (e))
leaves scene h p acts old (Some t) (Some verdicts.No) stored =
    leaves_permanent scene h p acts old (Some t) (Some verdicts.No) _ (held_header old) stored (λ fine x e. fine refl)
leaves scene h p acts old (Some t) None stored = leaves_tentative scene h p acts old t None (λ e. cc (e)) stored
leaves scene h p acts old (Some t) (Some verdicts.Open) stored = leaves_tentative scene h p acts old t (Some verdicts.Open) (λ e. cc (e)) stored
leaves scene h p acts old (Some t) (Some verdicts.Yes) stored = leaves_tentative scene h p acts old t (Some verdicts.Yes) (λ e. cc (e)) stored

-- what p keeps of its log where it fails
abbrev pub kept_then : State → NodeId → ℕ
kept_then s p =
    log_left (verdict_on s.content (row_of s.content p).tentative) (option_map header_of (row_of s.content p).permanent) (tentative_in s.content p)

pub fails : (s : State) → IsSound s → (p : NodeId) (n : Live) → IsAlive s p n
    → Keeps s p (fail_plan (view s p) (kept_then s p))
fails s sound p n alive =
    let keep : ℕ =
    log_left (verdict_on s.content (row_of s.content p).tentative) (option_map header_of (row_of s.content p).permanent) (tentative_in s.content p) in
    let left = leaves s.scene (s.history ++ notes.Cut p keep ∷ []) p (acts_in_log s.history p) (row_of s.content p).permanent (row_of s.content p).tentative
    (verdict_on s.content (row_of s.content p).tentative) (sound.nodes p).stored in
    cut_keeps s p keep changes.Fall [] None Down (ap (option_map (changed changes.Fall)) alive) left.short tt tt left.sound

-- ---- a node that is down learns a verdict

-- a node of the scene that is down
abbrev pub HasFallen : State → NodeId → Type 0
HasFallen s p = node s p ≡ Some Down

pub has_fallen : (s : State) → IsReady s → (p : NodeId) → IsTrue (is_node s.scene p) → IsDown s p → HasFallen s p
has_fallen s ready p is down = by (node s p) (ready.there p ∙ is) down
  where
    by : (row : Option Node) → is_some row ≡ true → unwrap_or row Down ≡ Down → row ≡ Some Down
    by None there e = absurd cc
    by (Some x) there e = ap Some e

down_was : (s : State) → IsSound s → (p : NodeId) → HasFallen s p → NodeSoundIn s.scene s.history s.content p (Some Down)
down_was s sound p down = subst (NodeSoundIn s.scene s.history s.content p) down (sound.nodes p)

pub learns_no_down : (s : State) → IsSound s → (p : NodeId) → HasFallen s p → Keeps s p (discard_down_plan (view s p) (stored_of s.content p))
learns_no_down s sound p down =
    let old : Option Ckpt = (row_of s.content p).permanent in
    let acts : List Act = acts_in_log s.history p in
    let front : HoldsFront s.scene p acts old = (sound.nodes p).stored.permanent in
    let is = held_header old in
    let short : acts_in (option_map header_of old) ≤ length acts = omega (arith, is, front.short) in
    cut_keeps s p (acts_in (option_map header_of old)) changes.Stay [] (Some writes.Discard) Down (ap (option_map (changed changes.Stay)) down) short tt tt
    (fallen s.scene _ p acts old None None (acts_in (option_map header_of old)) (record { permanent = front; tentative = λ fine. tt }) (omega (arith, is)) short
    (λ fine t e. absurd cc) is)

-- what is promoted holds the whole log
promoted_long : (long : ℕ) (old : Option Ckpt) (taken : Option Tentative) (verdict : Option Verdict) → IsNotNo verdict
    → EndsDown long (acts_held old) verdict taken
    → long ≡ acts_held (promoted_from old taken)
promoted_long long old None verdict fine ends = ends
promoted_long long old (Some t) verdict fine ends = ends fine

pub learns_yes_down : (s : State) → IsSound s → (p : NodeId) → HasFallen s p → settled (verdict_for s (Learn p)) ≡ Some true → Keeps s p promote_down_plan
learns_yes_down s sound p down is =
    let write : Option Write = Some writes.Promote in
    let c : Content = content_after p write s.content in
    let row : NodeRow = row_of s.content p in
    let verdict : Option Verdict = verdict_on s.content row.tentative in
    let was = down_was s sound p down in
    let board : verdict_for s (Learn p) ≡ verdict = ap (λ x. to_learn s.content p (unwrap_or x Down)) down in
    let yes_there : verdict ≡ Some verdicts.Yes = sym board ∙ settled-is (verdict_for s (Learn p)) true is in
    let fine : IsNotNo verdict = λ e. cc (yes_there, e) in
    let Of : Option Node → Type 0 = λ x. NodeSoundIn s.scene s.history c p (option_map (changed changes.Stay) x) in
    let Row : NodeRow → Type 0 =
    λ new. IsNodeSound s.scene s.history p (acts_in_log s.history p) (Some Down) new.permanent new.tentative (verdict_on c new.tentative) in
    record {
      may = tt;
      sends = tt;
      noes = noes-stay p write s.content tt;
      sound = subst Of (sym down) (subst Row (sym (own-row p write s.content)) (record {
        like = tt;
        kept = tt;
        stored = record {
          permanent = promoted_front s.scene p (acts_in_log s.history p) row.permanent row.tentative verdict was.stored fine;
          tentative = λ still. tt;
        };
        ends = promoted_long (length (acts_in_log s.history p)) row.permanent row.tentative verdict fine was.ends;
      }));
    }
