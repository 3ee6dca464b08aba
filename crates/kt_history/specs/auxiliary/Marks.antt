-- What a history keeps of each note, so that survival is known without a look at the past.
-- Cited by Changes, Counts, Keeping, KeepingActs, KeepingCuts, MarkSteps, RowSteps, history.rt, mark.rt, rows.rt,
--   `History::add_act`, `History::add_cut`, `History::new`, `History::survives`, `History::survivors`,
--   `mark::count_lost`, `mark::renew_at`, `rows::reserve_row`.
use Rattle.std.specs.Prelude.{◌≡◌, ℕ, zero, suc, ◌+◌, ◌<◌, ◌≤◌, ◌==◌, Bool, true, false, not, ◌&&◌}
use Rattle.std.specs.Prelude.{◌||◌, if◌then◌else◌, List, [], ◌∷◌, Option, None, Some, length, map}
use Rattle.std.specs.Prelude.{Contains, slice_get, slice_index, slice_index_or, vec_len, vec_capacity}
use Rattle.std.specs.List.{list_any}
use Rattle.std.specs.Option.{option_to_list}
use Rattle.std.specs.declared.vec.Vec.{Vec}
use Rattle.std.specs.declared.alloc.Global.{Global}
use Rattle.kt_tuple.specs.declared.node.NodeId.{NodeId}
use Rattle.kt_tuple.specs.declared.service.Service.{Service}
use Rattle.kt_tuple.specs.Node.{node_index}
use Rattle.kt_history.specs.declared.note.Act.{Act}
use Rattle.kt_history.specs.declared.note.Note.{Note}
use Rattle.kt_history.specs.declared.note.Note.TheVariants as notes
use Rattle.kt_history.specs.declared.mark.Mark.{Mark}
use Rattle.kt_history.specs.Log.{note_at, before, log, last_of}
use Rattle.kt_history.specs.Survival.{survives, note_service, is_service}
use Rattle.kt_history.specs.WellFormed.{CausesComeFirst}

-- nothing is lost with this number: it survives, or is 0 and names nothing
abbrev pub lasts : List Note → ℕ → Bool
lasts h n = n == 0 || survives h n

-- the mark of a note that is no act
abbrev pub no_mark : Mark
no_mark = record { previous = 0; place = 0; survives = false }

-- the mark of the note at this place, counted from 0
abbrev pub mark_at : List Mark → ℕ → Mark
mark_at marks k = slice_index_or marks k no_mark

-- by the marks, nothing is lost with this number
abbrev pub lasts_in : List Mark → ℕ → Bool
lasts_in marks zero = true
lasts_in marks (suc k) = (mark_at marks k).survives

-- the mark at a place once these numbers are lost
abbrev pub unmarked : List ℕ → ℕ → Mark → Mark
unmarked numbers k mark = record {
  previous = mark.previous;
  place = mark.place;
  survives = mark.survives && not (list_any (λ m. m == suc k) numbers);
}

-- a mark once what was lost before its note is carried on to it
abbrev pub renewed : Option Note → Mark → List Mark → Mark
renewed None mark marks = mark
renewed (Some (notes.Act a)) mark marks = record {
  previous = mark.previous;
  place = mark.place;
  survives = mark.survives && (lasts_in marks mark.previous && lasts_in marks a.by);
}
renewed (Some (notes.Cut p keep)) mark marks = mark

-- the note's cause is among the first k
abbrev pub LooksBack : Option Note → ℕ → Type 0
LooksBack None k = Unit {0}
LooksBack (Some (notes.Act a)) k = a.by ≤ k
LooksBack (Some (notes.Cut p keep)) k = Unit {0}

-- the marks are of the notes, and each mark and each cause points back
pub record AreMarksOf (h : List Note) (marks : List Mark) : Type 0 where
  pub lengths : length marks ≡ length h
  pub previous : (k : ℕ) → k < length h → (mark_at marks k).previous ≤ k
  pub causes : (k : ℕ) → k < length h → LooksBack (slice_get h k) k

-- the new marks are the old ones where what was lost is carried on from this place
pub record IsRenewed (h : List Note) (old new : List Mark) (first : ℕ) : Type 0 where
  pub lengths : length new ≡ length old
  pub below : (k : ℕ) → k < first → mark_at new k ≡ mark_at old k
  pub above : (k : ℕ) → first ≤ k → k < length h → mark_at new k ≡ renewed (slice_get h k) (mark_at old k) new

-- the new marks are the old ones without these numbers
pub record IsUnmarked (numbers : List ℕ) (old new : List Mark) : Type 0 where
  pub lengths : length new ≡ length old
  pub each : (k : ℕ) → k < length old → mark_at new k ≡ unmarked numbers k (mark_at old k)

-- the numbers name notes of h, there is one, and none is smaller than the first of them
pub record AreLost (h : List Note) (numbers : List ℕ) : Type 0 where
  pub some : 0 < length numbers
  pub positive : 1 ≤ slice_index numbers 0
  pub first_within : slice_index numbers 0 ≤ length h
  pub least : (n : ℕ) → Contains numbers n → slice_index numbers 0 ≤ n
  pub within : (n : ℕ) → Contains numbers n → (1 ≤ n) × (n ≤ length h)

-- the new marks are the old ones where these numbers are lost, and all that came after them is looked at anew
pub record HasLost (h : List Note) (numbers : List ℕ) (old new : List Mark) : Type 0 where
  pub lengths : length new ≡ length old
  pub below : (k : ℕ) → suc k < slice_index numbers 0 → mark_at new k ≡ mark_at old k
  pub above : (k : ℕ) → slice_index numbers 0 ≤ suc k → k < length h
      → mark_at new k ≡ renewed (slice_get h k) (unmarked numbers k (mark_at old k)) new

-- the service that a note is, as a list, where by its mark it survives
abbrev pub kept_service : Note → Mark → List Service
kept_service note mark = if mark.survives then option_to_list (note_service note) else []

-- the mark of an act with this number before it in its log, this cause and this place
abbrev pub act_mark : List Mark → ℕ → ℕ → ℕ → Mark
act_mark marks before_it cause place =
    record { previous = before_it; place = place; survives = lasts_in marks before_it && lasts_in marks cause }

-- the note is a service, and by its mark it does not survive
abbrev pub is_lost : Note → Mark → Bool
is_lost note mark = not mark.survives && is_service note

-- how many services among the notes are not marked
abbrev pub lost_among : List Note → List Mark → ℕ
lost_among [] marks = 0
lost_among (x ∷ xs) [] = 0
lost_among (x ∷ xs) (mark ∷ marks) = (if is_lost x mark then 1 else 0) + lost_among xs marks

-- the lists of numbers in a table
abbrev pub rows_of : List (Vec ℕ Global) → List (List ℕ)
rows_of table = map (λ (row : Vec ℕ Global). row.items) table

-- the list of numbers at a place, and none past the end
abbrev pub row_at : List (List ℕ) → ℕ → List ℕ
row_at rows i = slice_index_or rows i []

-- the table has a row at this place with room for one more number
abbrev pub HasRoom : Vec (Vec ℕ Global) Global → ℕ → Type 0
HasRoom table i = (i < vec_len table)
    × ((d : Vec ℕ Global) → vec_len (slice_index_or table.items i d) < vec_capacity (slice_index_or table.items i d))

-- each place has the same row
abbrev pub SameRows : Vec (Vec ℕ Global) Global → Vec (Vec ℕ Global) Global → Type 0
SameRows old new = (i : ℕ) → row_at (rows_of new.items) i ≡ row_at (rows_of old.items) i

-- what a history keeps agrees with its notes
pub record Agrees (h : List Note) (rows : List (List ℕ)) (marks : List Mark) (lost : ℕ) : Type 0 where
  pub causes : CausesComeFirst h
  pub logs : (p : NodeId) → row_at rows (node_index p) ≡ log h p
  pub lengths : length marks ≡ length h
  pub survive : (k : ℕ) → k < length h → (mark_at marks k).survives ≡ survives h (suc k)
  pub previous : (k : ℕ) (a : Act) → note_at h (suc k) ≡ Some (notes.Act a)
      → (mark_at marks k).previous ≡ last_of (log (before h (suc k)) a.node)
  pub place : (k : ℕ) (a : Act) → note_at h (suc k) ≡ Some (notes.Act a)
      → (mark_at marks k).place ≡ length (log (before h (suc k)) a.node) + 1
  pub back : (k : ℕ) → k < length h → (mark_at marks k).previous ≤ k
  pub counted : lost ≡ lost_among h marks
