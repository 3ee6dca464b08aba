-- Cuts: of each node's log so many acts (Koo and Toueg, "Checkpointing and Rollback-Recovery for Distributed Systems":
-- a consistent set, with all that it follows from). And the cut of the permanent checkpoints.
-- Cited by ActKeeps, Cuts, Cutting, FailLeaves, Fitting, Gives, HeldActs, Lasting, NeverUnfit, PermanentPart,
--   QuietLeaves, Renumbered, ResumedServices, Resuming, RollLeaves, Settle, Settling, Sound, StoredFronts, Sums,
--   Updates, laws.rt, specs/Forced, specs/Headline and 3 more; other crates.
use Rattle.std.specs.Prelude.{ℕ, ◌==◌, Bool, false, List, [], take, Option, None, Some, Contains}
use Rattle.std.specs.List.{flat_map, list_any, range_with_len}
use Rattle.kt_tuple.specs.declared.node.NodeId.{NodeId}
use Rattle.kt_tuple.specs.declared.node.NodeId.TheVariants as ids
use Rattle.kt_tuple.specs.declared.tuple.Tuple.{Tuple}
use Rattle.kt_tuple.specs.declared.service.Service.{Service}
use Rattle.kt_history.specs.declared.note.Note.{Note}
use Rattle.kt_history.specs.declared.note.Note.TheVariants as notes
use Rattle.kt_history.specs.Log.{note_at, log}
use Rattle.kt_history.specs.Past.{InPast}
use Rattle.kt_history.specs.Survival.{services_of, marked_acts}
use Rattle.kt_ckpt.specs.declared.ckpt.Ckpt.{Ckpt}
use Rattle.kt_ckpt.specs.declared.state.State.{State as Saved}
use Rattle.kt_ckpt.specs.declared.state.State.TheVariants as saved
use Rattle.kt_store.specs.declared.rows.Tentative.{Tentative}
use Rattle.kt_store.specs.declared.rows.Verdict.{Verdict}
use Rattle.kt_store.specs.declared.rows.Verdict.TheVariants as verdicts
use Rattle.kt_store.specs.Content.{Content, row_of, verdict_on}
use Rattle.kt_model.specs.State.{State}

-- the act is among the first so many of a log
abbrev pub IsInCut : List Note → (NodeId → ℕ) → ℕ → Type 0
IsInCut h cut n = (p : NodeId) × Contains (take (cut p) (log h p)) n

-- with each of its acts the cut has all of its past
abbrev pub IsCausallyClosed : List Note → (NodeId → ℕ) → Type 0
IsCausallyClosed h cut = (e f : ℕ) → InPast h e f → IsInCut h cut f → IsInCut h cut e

-- the same as a test that computes
abbrev pub note_in_cut : List Note → (NodeId → ℕ) → ℕ → Option Note → Bool
note_in_cut h cut n None = false
note_in_cut h cut n (Some (notes.Act a)) = list_any (λ m. m == n) (take (cut a.node) (log h a.node))
note_in_cut h cut n (Some (notes.Cut p keep)) = false

unfoldable pub is_in_cut : List Note → (NodeId → ℕ) → ℕ → Bool
is_in_cut h cut n = note_in_cut h cut n (note_at h n)

-- the services among the acts of the cut, by rising number
unfoldable pub part : List Note → (NodeId → ℕ) → List Service
part h cut = services_of (marked_acts (is_in_cut h cut) h)

-- ---- the permanent checkpoints: a tentative one counts from the moment that its Yes is written

-- how many acts a checkpoint holds; nothing stored is the beginning
abbrev pub acts_held : Option Ckpt → ℕ
acts_held None = 0
acts_held (Some c) = c.line_len

abbrev pub permanent_by : Option Verdict → Option Tentative → Option Ckpt → Option Ckpt
permanent_by (Some verdicts.Yes) (Some t) permanent = Some t.checkpoint
permanent_by _ _ permanent = permanent

abbrev pub permanent_of : Content → NodeId → Option Ckpt
permanent_of c p = permanent_by (verdict_on c (row_of c p).tentative) (row_of c p).tentative (row_of c p).permanent

abbrev pub permanent_length : Content → NodeId → ℕ
permanent_length c p = acts_held (permanent_of c p)

-- the tuples of a stored shard
abbrev pub tuples_in : Saved → List Tuple
tuples_in (saved.Worker w) = []
tuples_in (saved.Shard y) = y.bag

abbrev pub tuples_of : Option Ckpt → List Tuple
tuples_of None = []
tuples_of (Some c) = tuples_in c.state

-- those of all shards' permanent checkpoints
abbrev pub permanent_tuples : State → List Tuple
permanent_tuples s = flat_map (λ r. tuples_of (permanent_of s.content (ids.Shard r))) (range_with_len 1 s.scene.shards)
