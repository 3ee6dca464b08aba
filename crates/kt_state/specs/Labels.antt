-- Tables of labels, one for each neighbour, by the neighbour's number among its kind.
-- Cited by Numbers, Tables, labels.rt, loading.rt, saving.rt, specs/Asking, specs/Loading, specs/Node, specs/Ready,
--   specs/State, specs/Stored, specs/Updating, specs/auxiliary/Rooms, updating.rt, `loading::no_labels`,
--   `loading::sessions_of`, `loading::tabled`, `saving::cached_entries`, `saving::listed`, `saving::waiting_entries`,
--   `updating::write`; other crates.
use Rattle.std.specs.Prelude.{ℕ, zero, suc, ◌+◌, ◌==◌, nat_lt, nat_le, Bool, false, ◌&&◌, ◌||◌}
use Rattle.std.specs.Prelude.{List, [], ◌∷◌, map, replicate, Option, None, Some}
use Rattle.kt_link.specs.declared.label.Label.{Label}
use Rattle.kt_shard.specs.Table.{at}
use Rattle.kt_ckpt.specs.declared.limits.TheConstants.{MAX_PEERS}

-- the label of no message: below all others
abbrev pub no_label : Label
no_label = record { incarnation = 0; count = 0 }

-- a is b or below it: a test that computes
abbrev pub up_to : Label → Label → Bool
up_to a b = nat_lt a.incarnation b.incarnation || (a.incarnation == b.incarnation && nat_le a.count b.count)

-- the label of a neighbour
abbrev pub label_at : List Label → ℕ → Label
label_at table k = at no_label table k

-- the first label of a neighbour, if there is one
abbrev pub first_at : List (Option Label) → ℕ → Option Label
first_at table k = at None table k

-- l is at least the first label, where there is one
abbrev pub reaches : Option Label → Label → Bool
reaches None l = false
reaches (Some first) l = up_to first l

-- so many numbers, from this one on
unfoldable pub numbers : ℕ → ℕ → List ℕ
numbers from zero = []
numbers from (suc n) = from ∷ numbers (suc from) n

-- the table as a checkpoint lists it: the neighbours in node order
abbrev pub listed : ℕ → List Label → List Label
listed peers table = map (label_at table) (numbers 1 peers)

-- a table has an entry for each number that a neighbour can have, and for 0
abbrev pub table_size : ℕ
table_size = MAX_PEERS + 1

abbrev pub no_labels : List Label
no_labels = replicate table_size no_label

abbrev pub no_firsts : List (Option Label)
no_firsts = replicate table_size None

-- the label of a neighbour in a checkpoint's list, which has the neighbours from 1 on
abbrev pub listed_at : List Label → ℕ → Label
listed_at labels k = label_at (no_label ∷ labels) k

-- the table of a checkpoint's list
abbrev pub tabled : List Label → List Label
tabled labels = map (listed_at labels) (numbers 0 table_size)
