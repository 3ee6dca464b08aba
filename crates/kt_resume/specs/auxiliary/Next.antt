-- The note that is placed next, of acts that are left; and all acts of a node, before one is placed.
-- Cited by Founds, Turned, logs.rt, placing.rt, `logs::logs_of`, `placing::first_ready`, `placing::place_all`,
--   `placing::place_next`.
use Rattle.kt_tuple.specs.declared.node.NodeId.{NodeId}
use Rattle.std.specs.Prelude.{List, [], ◌∷◌, slice_get, Option, None, Some}
use Rattle.kt_history.specs.declared.note.Note.{Note}
use Rattle.kt_model.specs.Placing.{Acts, note_of, or_else}
use Rattle.kt_resume.specs.Unplaced.{Left}

-- the note of the next act of these, if its cause is placed
abbrev pub next_in : List Note → Left → Option Note
next_in h x = note_of h x.node (slice_get x.acts 0)

-- that of the first list whose next act can be placed
unfoldable pub first_in : List Note → List Left → Option Note
first_in h [] = None
first_in h (x ∷ later) = or_else (next_in h x) (first_in h later)

-- that of a list, if there is one
abbrev pub next_at : List Note → Option Left → Option Note
next_at h None = None
next_at h (Some x) = next_in h x

-- all that the node did, of which nothing is placed
abbrev pub log_of : Acts → NodeId → Left
log_of acts p = record { node = p; acts = acts p }
