-- The history of a world that is resumed: the acts that the permanent checkpoints hold, each placed once its cause is.
-- Cited by AllPlaced, Fitting, NeverUnfit, Placed, PlacedActs, ResumedRows, specs/Resumed; other crates.
use Rattle.std.specs.Prelude.{ℕ, zero, suc, List, [], ◌∷◌, length, Option, None, Some, slice_get}
use Rattle.std.specs.Option.{option_map}
use Rattle.kt_tuple.specs.declared.node.NodeId.{NodeId}
use Rattle.kt_history.specs.declared.note.Note.{Note}
use Rattle.kt_history.specs.declared.note.Note.TheVariants as notes
use Rattle.kt_history.specs.Log.{log}
use Rattle.kt_ckpt.specs.declared.acts.LogAct.{LogAct}
use Rattle.kt_model.specs.Effect.{noted}

-- the acts of each node, in the order of its log
abbrev pub Acts : Type 0
Acts = NodeId → List LogAct

-- the number at a place of a log, counted from 1
abbrev pub number_in : List ℕ → ℕ → Option ℕ
number_in numbers zero = None
number_in numbers (suc n) = slice_get numbers n

-- the number of the act at this place of this node's log, 0 where none is meant, if it is placed already
abbrev pub number_of : List Note → Option (NodeId × ℕ) → Option ℕ
number_of h None = Some 0
number_of h (Some by) = number_in (log h by.0) by.1

abbrev pub act_by : NodeId → LogAct → ℕ → Note
act_by p a by = notes.Act record { node = p; by = by; worker = a.worker; number = a.number; op = a.op; what = a.what }

-- the note of the act, if its cause is placed
abbrev pub note_of : List Note → NodeId → Option LogAct → Option Note
note_of h p None = None
note_of h p (Some a) = option_map (act_by p a) (number_of h a.by)

-- that of what p did next
abbrev pub next_of : Acts → List Note → NodeId → Option Note
next_of acts h p = note_of h p (slice_get (acts p) (length (log h p)))

-- the first, or else the second
abbrev pub or_else : {A : Type 0} → Option A → Option A → Option A
or_else None other = other
or_else (Some x) other = Some x

-- that of the first of these nodes whose next act can be placed
unfoldable pub next_note : Acts → List Note → List NodeId → Option Note
next_note acts h [] = None
next_note acts h (p ∷ later) = or_else (next_of acts h p) (next_note acts h later)

-- so many acts more are placed, as long as one can be
unfoldable pub placed : Acts → List NodeId → ℕ → List Note → List Note
placed acts nodes zero h = h
placed acts nodes (suc n) h = placed acts nodes n (noted h (next_note acts h nodes))
