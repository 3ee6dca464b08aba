-- A row of a node that is written: the node's own, and every other node's.
-- Cited by `laws::other_nodes_stay`, `laws::what_is_written_is_read`; other crates.
use Rattle.std.proofs.Common.{◌≡◌, Bool, true, false, cond, List, [], ◌∷◌, Some, refl, sym, ap, ◌∙◌}
use Rattle.std.specs.List.{find}
use Rattle.kt_tuple.specs.declared.node.NodeId.{NodeId}
use Rattle.kt_tuple.specs.Node.{node_eq, node_eq_decides, is_before}
use Rattle.kt_store.specs.declared.rows.NodeRow.{NodeRow}
use Rattle.kt_store.specs.Content.{Content, row_of, row_or}
use Rattle.kt_store.specs.Changes.{storing, with_row}
use Rattle.kt_store.specs.Others.{OtherNodesStay}
use Rattle.kt_store.proofs.Nodes.{apart, itself, one_way}
use Rattle.kt_store.proofs.Others.{placed_above, placed_below, placed_own}

is_of : (q : NodeId) (row : NodeRow) → node_eq row.node q ≡ true → row.node ≡ q
is_of q row is = (node_eq_decides row.node q).0 is

other_found : (new : NodeRow) (rows : List NodeRow) (q : NodeId) → node_eq new.node q ≡ false
    → find (λ (row : NodeRow). node_eq row.node q) (with_row new rows) ≡ find (λ (row : NodeRow). node_eq row.node q) rows
other_found new rows q other = by (is_before q new.node) refl
  where
    p : NodeRow → Bool
    p row = node_eq row.node q

    low : NodeRow → Bool
    low row = is_before row.node new.node

    high : NodeRow → Bool
    high row = is_before new.node row.node

    by : (b : Bool) → is_before q new.node ≡ b → find p (with_row new rows) ≡ find p rows
    by true is = placed_below p low high new rows other
        (λ row at. ap (λ n. is_before n new.node) (is_of q row at) ∙ is)
        (λ row at. ap (is_before new.node) (is_of q row at) ∙ one_way q new.node is)
    by false is = placed_above p low high new rows other
        (λ row at. ap (λ n. is_before n new.node) (is_of q row at) ∙ is)
        (λ row at. ap (is_before new.node) (is_of q row at) ∙ apart new.node q other is)

differ : (a b : NodeId) → ¬ (b ≡ a) → node_eq a b ≡ false
differ a b h = by (node_eq a b) refl
  where
    by : (e : Bool) → node_eq a b ≡ e → node_eq a b ≡ false
    by true is = absurd (h (sym ((node_eq_decides a b).0 is)))
    by false is = is

-- all other nodes stay as they were
pub others_stay : (row : NodeRow) (c : Content) → OtherNodesStay row.node c (storing row c)
others_stay row c q h = ap (row_or q) (other_found row c.nodes q (differ row.node q h))

-- what is read of the node itself is the row
pub stored_is_read : (row : NodeRow) (c : Content) → row_of (storing row c) row.node ≡ row
stored_is_read row c =
    ap (row_or row.node)
    (placed_own (λ (r : NodeRow). node_eq r.node row.node) (λ (r : NodeRow). is_before r.node row.node) (λ (r : NodeRow). is_before row.node r.node)
    row c.nodes ((node_eq_decides row.node row.node).1 refl)
    (λ r at. ap (λ n. is_before n row.node) (is_of row.node r at) ∙ itself row.node))

-- what is stored of a node is its own row
pub own_row : (p : NodeId) (rows : List NodeRow) → (row_or p (find (λ (row : NodeRow). node_eq row.node p) rows)).node ≡ p
own_row p [] = refl
own_row p (x ∷ rows) = by (node_eq x.node p) refl (own_row p rows)
  where
    by : (b : Bool) → node_eq x.node p ≡ b → (row_or p (find (λ (row : NodeRow). node_eq row.node p) rows)).node ≡ p
        → (row_or p (cond b (Some x) (find (λ (row : NodeRow). node_eq row.node p) rows))).node ≡ p
    by true is rest = is_of p x is
    by false is rest = rest

-- a row that is made of what is stored of the node leaves the others
pub others_stay_of : (p : NodeId) (new : NodeRow) (c : Content) → new.node ≡ (row_of c p).node → OtherNodesStay p c (storing new c)
others_stay_of p new c same q h = others_stay new c q (λ e. h (e ∙ same ∙ own_row p c.nodes))
