-- What the permanent checkpoints hold: the states behind the fronts of their nodes' logs; and where their cut is causally
-- closed, one run of the sequential space, in order, whose tuples they hold.
-- Cited by Lasting.
use Rattle.std.proofs.Common.{ℕ, ◌≤◌, List, take, length, filter, IsPermutation, Option, Some, None, sym, ap, subst, arith}
use Rattle.std.specs.Prelude.{IfSome}
use Rattle.std.specs.List.{range_with_len}
use Rattle.std.proofs.lemmas.List.Sorted.{IsPermutation-sym, IsPermutation-trans}
use Rattle.kt_tuple.specs.declared.node.NodeId.{NodeId}
use Rattle.kt_tuple.specs.declared.node.NodeId.TheVariants as ids
use Rattle.kt_tuple.specs.declared.tuple.Tuple.{Tuple}
use Rattle.kt_history.specs.declared.note.Act.{Act}
use Rattle.kt_history.specs.Log.{log}
use Rattle.kt_history.specs.Closed.{acts_in_log}
use Rattle.kt_ckpt.specs.declared.ckpt.Ckpt.{Ckpt}
use Rattle.kt_store.specs.declared.rows.Tentative.{Tentative}
use Rattle.kt_store.specs.declared.rows.Verdict.{Verdict}
use Rattle.kt_store.specs.declared.rows.Verdict.TheVariants as verdicts
use Rattle.kt_store.specs.Content.{row_of, verdict_on}
use Rattle.kt_logs.specs.ShardLog.{shard_of_acts, new_shard}
use Rattle.kt_logs.proofs.Shared.{is_home, shares, shares-whole, flat_map-like, marked_tuples}
use Rattle.kt_state.specs.Node.{Body, IsWorker, IsShard}
use Rattle.kt_scenario.specs.Scene.{SceneModel}
use Rattle.kt_model.specs.State.{State, role_of}
use Rattle.kt_model.specs.Asks.{setting_of}
use Rattle.kt_model.specs.Cut.{IsCausallyClosed, is_in_cut, permanent_by, permanent_of, permanent_length, tuples_in, tuples_of, permanent_tuples}
use Rattle.kt_model.specs.Like.{IsBodyLike, IsSavedOf, HoldsFront}
use Rattle.kt_model.specs.PermanentRun.{IsPermanentRun}
use Rattle.kt_model.proofs.Sound.{IsTentative, IsStored, IsSound}
use Rattle.kt_model.proofs.NoteSound.{log-long}
use Rattle.kt_model.proofs.Cuts.{part_run, part_order, part_share}

-- ---- each stored checkpoint

pub fronts_in : (scene : SceneModel) (p : NodeId) (acts : List Act) (old : Option Ckpt) (taken : Option Tentative)
    → IfSome taken (λ t. IsTentative scene p acts old t.checkpoint)
    → IfSome taken (λ t. HoldsFront scene p acts (Some t.checkpoint))
fronts_in scene p acts old None some = tt
fronts_in scene p acts old (Some t) some = some.front

-- ---- the permanent ones, among which a tentative one counts that has Yes

permanent_by_front : (scene : SceneModel) (p : NodeId) (acts : List Act) (old : Option Ckpt) (taken : Option Tentative) (verdict : Option Verdict)
    → IsStored scene p acts old taken verdict
    → HoldsFront scene p acts (permanent_by verdict taken old)
permanent_by_front scene p acts old (Some t) (Some verdicts.Yes) stored = (stored.tentative (λ e. cc (e))).front
permanent_by_front scene p acts old None (Some verdicts.Yes) stored = stored.permanent
permanent_by_front scene p acts old taken (Some verdicts.Open) stored = stored.permanent
permanent_by_front scene p acts old taken (Some verdicts.No) stored = stored.permanent
permanent_by_front scene p acts old taken None stored = stored.permanent

pub permanent_front : (s : State) → IsSound s → (p : NodeId) → HoldsFront s.scene p (acts_in_log s.history p) (permanent_of s.content p)
permanent_front s sound p =
    permanent_by_front s.scene p (acts_in_log s.history p) (row_of s.content p).permanent (row_of s.content p).tentative
    (verdict_on s.content (row_of s.content p).tentative) (sound.nodes p).stored

-- they hold no more acts than are remembered
pub permanent_within : (s : State) → IsSound s → (p : NodeId) → permanent_length s.content p ≤ length (log s.history p)
permanent_within s sound p = let long = log-long s.history p in omega (arith, long, (permanent_front s sound p).short)

-- ---- their tuples

saved_tuples : (scene : SceneModel) (r : ℕ) (acts : List Act) (stored : Option Ckpt) (body : Body) → IsSavedOf (role_of scene (ids.Shard r)) stored body
    → IsBodyLike scene.scripts (ids.Shard r) acts body → IsPermutation (shard_of_acts new_shard acts).bag (tuples_of stored)
saved_tuples scene r acts stored (IsWorker x) saved like = absurd like
saved_tuples scene r acts None (IsShard y) saved like =
    let Like : Body → Type 0 = IsBodyLike scene.scripts (ids.Shard r) acts in
    (subst Like saved like).bag
saved_tuples scene r acts (Some c) (IsShard y) saved like =
    let Bag : List Tuple → Type 0 = IsPermutation (shard_of_acts new_shard acts).bag in
    subst Bag (sym (ap tuples_in saved)) like.bag

-- the shares of the run's tuples are what the shards' checkpoints hold
permanent_held : (s : State) → IsSound s → 1 ≤ s.scene.shards → IsCausallyClosed s.history (permanent_length s.content)
    → IsPermutation (marked_tuples (is_in_cut s.history (permanent_length s.content)) s.history) (permanent_tuples s)
permanent_held s sound some closed =
    IsPermutation-trans tuples (shares s.scene.shards tuples) (permanent_tuples s)
    (IsPermutation-sym (shares s.scene.shards tuples) tuples (shares-whole s.scene.shards some tuples))
    (flat_map-like (range_with_len 1 s.scene.shards) (λ r. filter (is_home s.scene.shards r) tuples) (λ r. tuples_of (permanent_of s.content (ids.Shard r)))
    (λ r c. one r))
  where
    tuples : List Tuple
    tuples = marked_tuples (is_in_cut s.history (permanent_length s.content)) s.history

    one : (r : ℕ) → IsPermutation (filter (is_home s.scene.shards r) (marked_tuples (is_in_cut s.history (permanent_length s.content)) s.history))
        (tuples_of (permanent_of s.content (ids.Shard r)))
    one r =
        let front = permanent_front s sound (ids.Shard r) in
        let share = part_share (setting_of s.scene) s.history (permanent_length s.content) sound.legal closed r (permanent_within s sound (ids.Shard r)) in
        subst (λ l. IsPermutation l (tuples_of (permanent_of s.content (ids.Shard r)))) (sym share)
        (saved_tuples s.scene r (take (permanent_length s.content (ids.Shard r)) (acts_in_log s.history (ids.Shard r)))
        (permanent_of s.content (ids.Shard r)) front.body front.saved front.like)

pub permanent_run : (s : State) → IsSound s → 1 ≤ s.scene.shards → IsCausallyClosed s.history (permanent_length s.content) → IsPermanentRun s
permanent_run s sound some closed = record {
  tuples = marked_tuples (is_in_cut s.history (permanent_length s.content)) s.history;
  one_run = part_run (setting_of s.scene) s.history (permanent_length s.content) sound.legal closed;
  in_order = part_order (setting_of s.scene) s.history (permanent_length s.content) sound.legal sound.well_formed closed;
  are_held = permanent_held s sound some closed;
}
