-- Where an act stood: the length of its node's log when it was appended, the act counted. No cut and no later note
-- changes it, so with its node it names the act as long as the act stands.
-- Cited by Places, history.rt; other crates.
use Rattle.std.specs.Prelude.{ℕ, ◌+◌, List, length, Option, None, Some}
use Rattle.kt_history.specs.declared.note.Note.{Note}
use Rattle.kt_history.specs.declared.note.Note.TheVariants as notes
use Rattle.kt_history.specs.Log.{note_at, before, log}

abbrev pub place_of : List Note → ℕ → Option Note → Option ℕ
place_of h n None = None
place_of h n (Some (notes.Act a)) = Some (length (log (before h n) a.node) + 1)
place_of h n (Some (notes.Cut p keep)) = None

-- the place of the act of this number, counted from 1; none where the number names no act
abbrev pub place : List Note → ℕ → Option ℕ
place h n = place_of h n (note_at h n)
