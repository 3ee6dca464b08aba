-- What is gathered of the acts of each node.
-- Cited by Gatherings, past.rt, `Past::add`, `past::give_up`, `past::put`.
use Rattle.std.specs.Prelude.{◌≡◌, ◌⊎◌, ℕ, ◌≤◌, Bool, true, List, [], length, take, All, Option, None, Some}
use Rattle.std.specs.Prelude.{slice_index_or}
use Rattle.kt_tuple.specs.declared.node.NodeId.{NodeId}
use Rattle.kt_tuple.specs.Node.{node_index}
use Rattle.kt_history.specs.declared.note.Act.{Act}
use Rattle.kt_history.specs.declared.note.Note.{Note}
use Rattle.kt_history.specs.declared.note.Note.TheVariants as notes
use Rattle.kt_history.specs.Log.{note_at}
use Rattle.kt_history.specs.Closed.{act_of}
use Rattle.kt_history.specs.WellFormed.{CausesComeFirst}
use Rattle.kt_ckpt.specs.declared.acts.LogAct.{LogAct}
use Rattle.kt_ckpt.specs.Acts.{IsActOf, is_act_of}
use Rattle.kt_ckpt.specs.LogActs.{log_act, log_acts}

-- these are first acts of the log of p, and each may stand in it
pub record IsGathered (h : List Note) (p : NodeId) (acts : List LogAct) : Type 0 where
  pub first : acts ≡ take (length acts) (log_acts h p)
  pub fit : All (IsActOf p) acts

-- the row of the node: nothing past the end of the table
abbrev pub row : List (List LogAct) → NodeId → List LogAct
row rows p = slice_index_or rows (node_index p) []

-- what stands beside a history is of it
pub record IsPast (h : List Note) (rows : List (List LogAct)) : Type 0 where
  pub causes : CausesComeFirst h
  pub gathered : (p : NodeId) → IsGathered h p (row rows p)

-- the row of the node has these acts, and each other is as it was, or each is
abbrev pub IsPut : NodeId → List LogAct → List LogAct → NodeId → List LogAct → Type 0
IsPut node acts old p new = (new ≡ old) ⊎ ((p ≡ node) × (new ≡ acts))

-- the note leaves so many acts in the log of p, where it cuts that
abbrev pub Leaves : Note → NodeId → ℕ → Type 0
Leaves (notes.Act a) p left = Unit {0}
Leaves (notes.Cut node keep) p left = p ≡ node → left ≤ keep

-- of the row of a node first acts are left, no more than the note leaves of its log
pub record IsLeft (note : Note) (old : List LogAct) (p : NodeId) (new : List LogAct) : Type 0 where
  pub left : ℕ
  pub first : new ≡ take left old
  pub few : Leaves note p (length new)

-- the act, where there is one, may stand in the log of p
abbrev pub is_fit : List Note → NodeId → Option Act → Bool
is_fit h p (Some a) = is_act_of p (log_act h a)
is_fit h p None = true

-- the act of this number, where it names one, may stand in the log of p
abbrev pub fits_at : List Note → NodeId → ℕ → Bool
fits_at h p n = is_fit h p (act_of (note_at h n))
