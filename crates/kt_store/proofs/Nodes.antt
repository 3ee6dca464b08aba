-- The rows of nodes: one that is changed where it stands, and one that is put among the others.
-- Cited by OtherNodes, `Contents::incarnation_of`, `change::change_row`, `change::insert_row`; other crates.
use Rattle.std.proofs.Common.{◌≡◌, ℕ, ◌<◌, ◌≤◌, Bool, true, false, cond, List, [], ◌∷◌, ◌++◌, set, insert, length, get_or, All}
use Rattle.std.proofs.Common.{AllPairs, None, Some, refl, sym, ap, arith, suc, le_of_lt, subst, Result, Ok, Err, OnOk, OnErr}
use Rattle.std.specs.List.{find, position, slice_get}
use Rattle.std.proofs.lemmas.List.Quantifiers.{position-Some}
use Rattle.kt_tuple.specs.declared.node.NodeId.{NodeId}
use Rattle.kt_tuple.specs.declared.node.NodeId.TheVariants.{Worker, Shard}
use Rattle.kt_tuple.specs.Node.{node_eq, is_before}
use Rattle.kt_store.specs.declared.rows.NodeRow.{NodeRow}
use Rattle.kt_store.specs.declared.change.Change.{Change}
use Rattle.kt_store.specs.declared.change.Change.TheVariants.{Incarnation, Take, Promote, Discard}
use Rattle.kt_store.specs.Content.{row_or, greatest}
use Rattle.kt_store.specs.Proper.{IsNodes}
use Rattle.kt_store.specs.Changes.{with_row}
use Rattle.kt_store.specs.auxiliary.Row.{changed, IsWithin}
use Rattle.kt_store.proofs.Tables.{IsOrder, placed_all, placed_among, placed_at, placed_last, placed_rising, none_passes, position_none}

pub one_way : (a b : NodeId) → is_before a b ≡ true → is_before b a ≡ false
one_way (Worker m) (Worker n) h = grind (arith, h)
one_way (Worker m) (Shard n) h = refl
one_way (Shard m) (Worker n) h = absurd cc
one_way (Shard m) (Shard n) h = grind (arith, h)

pub itself : (a : NodeId) → is_before a a ≡ false
itself (Worker m) = grind arith
itself (Shard m) = grind arith

through : (a b c : NodeId) → is_before a b ≡ true → is_before b c ≡ true → is_before a c ≡ true
through (Worker m) (Worker n) (Worker o) h g = grind (arith, h, g)
through (Worker m) (Worker n) (Shard o) h g = refl
through (Worker m) (Shard n) (Worker o) h g = absurd cc
through (Worker m) (Shard n) (Shard o) h g = refl
through (Shard m) (Worker n) c h g = absurd cc
through (Shard m) (Shard n) (Worker o) h g = absurd cc
through (Shard m) (Shard n) (Shard o) h g = grind (arith, h, g)

-- of two nodes one comes before the other
pub apart : (a b : NodeId) → node_eq a b ≡ false → is_before b a ≡ false → is_before a b ≡ true
apart (Worker m) (Worker n) h g = grind (arith, h, g)
apart (Worker m) (Shard n) h g = refl
apart (Shard m) (Worker n) h g = absurd cc
apart (Shard m) (Shard n) h g = grind (arith, h, g)

abbrev before : NodeRow → NodeRow → Bool
before a b = is_before a.node b.node

pub by_node_order : IsOrder (λ (a b : NodeRow). is_before a.node b.node)
by_node_order = record { one_way = λ a b h. one_way a.node b.node h; itself = λ a. itself a.node; through = λ a b c h g. through a.node b.node c.node h g }

-- a change leaves a row to its node
pub same_node : (change : Change) (row : NodeRow) → (changed change row).node ≡ row.node
same_node (Incarnation n) row = refl
same_node (Take t) row = refl
same_node Promote row = refl
same_node Discard row = refl

still_within : (change : Change) (row : NodeRow) → IsWithin change → row.incarnation ≤ greatest → (changed change row).incarnation ≤ greatest
still_within (Incarnation n) row h g = h
still_within (Take t) row h g = g
still_within Promote row h g = g
still_within Discard row h g = g

pub row_within : (p : NodeId) (rows : List NodeRow) → All (λ (row : NodeRow). row.incarnation ≤ greatest) rows
    → (row_or p (find (λ (row : NodeRow). node_eq row.node p) rows)).incarnation ≤ greatest
row_within p [] all = omega arith
row_within p (x ∷ rows) all = by (node_eq x.node p) (row_within p rows (λ k d lt. all (suc k) d (omega (arith, lt))))
  where
    by : (b : Bool) → (row_or p (find (λ (row : NodeRow). node_eq row.node p) rows)).incarnation ≤ greatest
        → (row_or p (cond b (Some x) (find (λ (row : NodeRow). node_eq row.node p) rows))).incarnation ≤ greatest
    by true rest = all 0 x (omega arith)
    by false rest = rest

-- rows of nodes stay so with one more in its place
pub still_nodes : (change : Change) (p : NodeId) (rows : List NodeRow) → IsWithin change → IsNodes rows
    → IsNodes (with_row (changed change (row_or p (find (λ (row : NodeRow). node_eq row.node p) rows))) rows)
still_nodes change p rows h is =
    let row : NodeRow = row_or p (find (λ (row : NodeRow). node_eq row.node p) rows) in
    record {
      rising = placed_rising before (changed change row) rows by_node_order is.rising;
      within = placed_all (λ (row : NodeRow). row.incarnation ≤ greatest) before (changed change row) rows
          (still_within change row h (row_within p rows is.within)) is.within;
    }

-- a row that is changed where it stands
pub changed_there : (change : Change) (p : NodeId) (rows : List NodeRow) (k : ℕ) (row : NodeRow)
    → AllPairs (λ (a b : NodeRow). is_before a.node b.node ≡ true) rows
    → find (λ (row : NodeRow). node_eq row.node p) rows ≡ Some row → slice_get rows k ≡ Some row
    → set rows k (changed change row) ≡ with_row (changed change (row_or p (find (λ (row : NodeRow). node_eq row.node p) rows))) rows
changed_there change p rows k row rising found at =
    rw found (placed_at before row (changed change row) rows k by_node_order
    (λ r. ap (is_before r.node) (same_node change row)) (λ r. ap (λ n. is_before n r.node) (same_node change row)) rising at)

-- a row of a node that has none, before the first that comes after it
pub added_among : (new : NodeRow) (rows : List NodeRow) (k : ℕ) → AllPairs (λ (a b : NodeRow). is_before a.node b.node ≡ true) rows
    → find (λ (row : NodeRow). node_eq row.node new.node) rows ≡ None
    → position (λ (row : NodeRow). is_before new.node row.node) rows ≡ Some k → insert rows k new ≡ with_row new rows
added_among new rows k rising none at =
    let there : (d : NodeRow) → (k < length rows) × (is_before new.node (get_or rows k d).node ≡ true)
    × ((i : ℕ) → i < k → is_before new.node (get_or rows i d).node ≡ false) =
    λ d. position-Some (λ (row : NodeRow). is_before new.node row.node) rows k d at in
    let within : k < length rows = (there new).0 in
    placed_among before new rows k by_node_order rising (le_of_lt within)
    (λ i d h. apart (get_or rows i d).node new.node (none_passes (λ (row : NodeRow). node_eq row.node new.node) rows none i d (omega (arith, h, within)))
    ((there d).2 i h))
    (λ d h. (there d).1)

-- and behind all others, where none comes after it
pub added_last : (new : NodeRow) (rows : List NodeRow)
    → find (λ (row : NodeRow). node_eq row.node new.node) rows ≡ None
    → position (λ (row : NodeRow). is_before new.node row.node) rows ≡ None → rows ++ new ∷ [] ≡ with_row new rows
added_last new rows none at =
    placed_last before new rows by_node_order
    (λ k d h. apart (get_or rows k d).node new.node (none_passes (λ (row : NodeRow). node_eq row.node new.node) rows none k d h)
    (none_passes (λ (row : NodeRow). is_before new.node row.node) rows (position_none (λ (row : NodeRow). is_before new.node row.node) rows at) k d h))

-- rows that are these or those are rows of nodes where both are
pub nodes_either : {E : Type 0} (result : Result (Unit {0}) E) (new done left : List NodeRow) → OnOk result (new ≡ done) → OnErr result (new ≡ left)
    → IsNodes done → IsNodes left → IsNodes new
nodes_either (Ok x) new done left is or h g = subst IsNodes (sym is) h
nodes_either (Err e) new done left is or h g = subst IsNodes (sym or) g
