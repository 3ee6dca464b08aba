-- The nodes that a stage is opened with.
-- Cited by `Stage::open_or_back`, `stage::count_among`.
use Rattle.std.proofs.Common.{◌≡◌, ℕ, zero, suc, ◌<◌, ◌≤◌, Bool, true, false, cond, ◌||◌, IsTrue, All, List, [], ◌∷◌, filter, get_or, length, refl, arith}
use Rattle.std.specs.List.{list_any}
use Rattle.kt_tuple.specs.declared.node.NodeId.{NodeId}
use Rattle.kt_tuple.specs.Node.{node_eq}
use Rattle.kt_scenario.specs.Scene.{SceneModel}
use Rattle.kt_stage.specs.Order.{has_node, nodes_of}
use Rattle.kt_tuple.proofs.Shared.{node_eq-refl}

found-at : (xs : List NodeId) (k : ℕ) (d : NodeId) → k < length xs → list_any (node_eq (get_or xs k d)) xs ≡ true
found-at [] k d lt = absurd (omega (arith, lt))
found-at (x ∷ xs) zero d lt = rw (node_eq-refl x) refl
found-at (x ∷ xs) (suc k) d lt = later (node_eq (get_or xs k d) x) (found-at xs k d (omega (arith, lt)))
  where
    later : (b : Bool) → list_any (node_eq (get_or xs k d)) xs ≡ true → (b || list_any (node_eq (get_or xs k d)) xs) ≡ true
    later true e = refl
    later false e = e

-- each node of a scene is one of them
pub all-there : (scene : SceneModel) → All (λ p. IsTrue (has_node scene p)) (nodes_of scene)
all-there scene k d lt = found-at (nodes_of scene) k d lt

pub fewer : {A : Type 0} (test : A → Bool) (xs : List A) → length (filter test xs) ≤ length xs
fewer test [] = omega arith
fewer {A} test (x ∷ xs) = by (test x) (fewer test xs)
  where
    by : (b : Bool) → length (filter test xs) ≤ length xs → length (cond b (x ∷ filter test xs) (filter test xs)) ≤ length (x ∷ xs)
    by true le = omega (arith, le)
    by false le = omega (arith, le)
