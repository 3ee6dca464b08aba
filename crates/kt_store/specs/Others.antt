-- What a write leaves: what is stored of other nodes, and what the board has of other instances.
-- Cited by OtherInstances, OtherNodes, laws.rt; other crates.
use Rattle.std.specs.Prelude.{◌≡◌, ℕ}
use Rattle.kt_tuple.specs.declared.node.NodeId.{NodeId}
use Rattle.kt_store.specs.Content.{Content, instance_row, row_of}

-- of every node but this one the second holds what the first does
abbrev pub OtherNodesStay : NodeId → Content → Content → Type 0
OtherNodesStay p c c' = (q : NodeId) → ¬ (q ≡ p) → row_of c' q ≡ row_of c q

-- of every instance but this one its board has what that of the first has
abbrev pub OtherInstancesStay : ℕ → Content → Content → Type 0
OtherInstancesStay i c c' = (j : ℕ) → ¬ (j ≡ i) → instance_row c' j ≡ instance_row c j
