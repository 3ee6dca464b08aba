-- What callers see of a history: its notes, and how many more it takes with no memory asked for.
-- Cited by Room, history.rt, note.rt; other crates.
use Rattle.std.specs.Prelude.{ℕ, ◌-◌, min, List, map, slice_index_or, vec_len, vec_capacity}
use Rattle.std.specs.declared.vec.Vec.{Vec}
use Rattle.std.specs.declared.alloc.Global.{Global}
use Rattle.kt_tuple.specs.declared.node.NodeId.{NodeId}
use Rattle.kt_tuple.specs.Node.{node_index}
use Rattle.kt_history.specs.declared.note.Note.{Note}
use Rattle.kt_history.specs.declared.note.Note.TheVariants as notes
use Rattle.kt_history.specs.declared.mark.Mark.{Mark}

-- the notes, oldest first, and for the nodes by their index how many more notes of each can be added with no
-- memory asked for
pub record Chronicle : Type 0 where
  pub notes : List Note
  pub room : List ℕ

-- the node that the note is of
abbrev pub node_of : Note → NodeId
node_of (notes.Act a) = a.node
node_of (notes.Cut p keep) = p

-- how many more notes of the node can be added with no memory asked for
abbrev pub room_of : Chronicle → NodeId → ℕ
room_of chronicle p = slice_index_or chronicle.room (node_index p) 0

-- how many more items the Vec takes with no memory asked for
abbrev pub spare : {A : Type 0} → Vec A Global → ℕ
spare v = vec_capacity v - vec_len v

-- a note more takes an item more of the notes, of the marks and of its node's row
abbrev pub chronicle : Vec Note Global → Vec Mark Global → List (Vec ℕ Global) → Chronicle
chronicle history marks rows = record {
  notes = history.items;
  room = map (λ (row : Vec ℕ Global). min (spare history) (min (spare marks) (spare row))) rows;
}
