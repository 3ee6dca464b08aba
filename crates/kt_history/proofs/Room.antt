-- What a history shows to callers, and what room it has.
-- Cited by `History::add_act`, `History::add_cut`, `History::lost_count`, `History::make_room`, `History::survives`,
--   `History::survivors`.
use Rattle.std.proofs.Common.{◌≡◌, ℕ, zero, suc, ◌<◌, ◌≤◌, List, [], ◌∷◌, map, length, get_or, sym, ap, ◌∙◌, refl, inl, inr, arith, vec_len, vec_capacity}
use Rattle.std.specs.Prelude.{min}
use Rattle.std.specs.declared.vec.Vec.{Vec}
use Rattle.std.specs.declared.alloc.Global.{Global}
use Rattle.std.proofs.Math.Nat.{le-min, min-le_left, min-le_right}
use Rattle.std.proofs.lemmas.List.{get_or-map, get_or_past, length-map}
use Rattle.std.proofs.lemmas.Bool.{cases_lt}
use Rattle.kt_tuple.specs.declared.node.NodeId.{NodeId}
use Rattle.kt_tuple.specs.Node.{node_index}
use Rattle.kt_history.specs.declared.note.Note.{Note}
use Rattle.kt_history.specs.declared.mark.Mark.{Mark}
use Rattle.kt_history.specs.Chronicle.{Chronicle, chronicle, spare, room_of}

-- the notes that are shown
pub shown_notes : {x y : Chronicle} → x ≡ y → x.notes ≡ y.notes
shown_notes e = ap (λ (k : Chronicle). k.notes) e

-- what room for a note at a place of the table is made of
pub record HasPlace (n : Vec Note Global) (m : Vec Mark Global) (rows : List (Vec ℕ Global)) (i : ℕ) : Type 0 where
  pub notes : vec_len n < vec_capacity n
  pub marks : vec_len m < vec_capacity m
  pub within : i < length rows
  pub row : (d : Vec ℕ Global) → vec_len (get_or rows i d) < vec_capacity (get_or rows i d)

-- the room that is shown for one row
abbrev row_room : Vec Note Global → Vec Mark Global → Vec ℕ Global → ℕ
row_room n m row = min (spare n) (min (spare m) (spare row))

-- a place within the table holds a row
row_there : (rows : List (Vec ℕ Global)) (i : ℕ) → i < length rows → (v : Vec ℕ Global) × ((d : Vec ℕ Global) → get_or rows i d ≡ v)
row_there [] i lt = absurd (omega (arith, lt))
row_there (v ∷ rows) zero lt = (v, λ d. refl)
row_there (v ∷ rows) (suc i) lt = row_there rows i (omega (arith, lt))

-- room for a note of a node is room at its place
pub HasPlace-of : (n : Vec Note Global) (m : Vec Mark Global) (rows : List (Vec ℕ Global)) (k : Chronicle) (p : NodeId) (i : ℕ) → chronicle n m rows ≡ k
    → i ≡ node_index p → 1 ≤ room_of k p → HasPlace n m rows i
HasPlace-of n m rows k p i shown place some = elim (cases_lt i (length rows)) [
  | inl within ↦
      let v = row_there rows i within in
      let is = get_or-map (row_room n m) rows i v.0 0 within in
      let has : 1 ≤ row_room n m (get_or rows i v.0) = omega (arith, here, is) in
      record {
        notes = omega (arith, has, min-le_left (spare n) (min (spare m) (spare (get_or rows i v.0))));
        marks = omega (arith, has, min-le_right (spare n) (min (spare m) (spare (get_or rows i v.0))), min-le_left (spare m) (spare (get_or rows i v.0)));
        within = within;
        row =
            λ d. omega (
              arith,
              has,
              min-le_right (spare n) (min (spare m) (spare (get_or rows i v.0))),
              min-le_right (spare m) (spare (get_or rows i v.0)),
              ap vec_len (v.1 d ∙ sym (v.1 v.0)),
              ap vec_capacity (v.1 d ∙ sym (v.1 v.0)),
            );
      }
  | inr past ↦ absurd (omega (arith, here, get_or_past (map (row_room n m) rows) i 0 (omega (arith, past, length-map rows (row_room n m)))))
] where
  here : 1 ≤ get_or (map (row_room n m) rows) i 0
  here = omega (arith, some, ap (λ (c : Chronicle). room_of c p) shown, ap (λ j. get_or (map (row_room n m) rows) j 0) place)

-- room at a node's place is room for a note of it
pub room_of-from : (n : Vec Note Global) (m : Vec Mark Global) (rows : List (Vec ℕ Global)) (p : NodeId) (i : ℕ) → i ≡ node_index p → HasPlace n m rows i
    → 1 ≤ room_of (chronicle n m rows) p
room_of-from n m rows p i place has =
    let v = row_there rows i has.within in
    let is = get_or-map (row_room n m) rows i v.0 0 has.within in
    let part : 1 ≤ min (spare m) (spare (get_or rows i v.0)) = le-min (omega (arith, has.marks)) (omega (arith, has.row v.0)) in
    let whole : 1 ≤ row_room n m (get_or rows i v.0) = le-min (omega (arith, has.notes)) part in
    omega (arith, whole, is, ap (λ j. get_or (map (row_room n m) rows) j 0) place)
