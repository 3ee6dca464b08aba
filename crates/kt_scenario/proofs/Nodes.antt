-- The nodes of a scene: workers and shards, by their numbers.
-- Cited by other crates.
use Rattle.std.proofs.Common.{◌≡◌, ℕ, zero, suc, ◌<◌, ◌≤◌, Bool, true, false, ◌||◌, List, [], ◌∷◌, length, refl, arith}
use Rattle.std.specs.Prelude.{is_some, slice_get, IsTrue}
use Rattle.std.proofs.lemmas.Bool.{or_left, or_right}
use Rattle.kt_tuple.specs.declared.node.NodeId.{NodeId}
use Rattle.kt_tuple.specs.declared.node.NodeId.TheVariants as ids
use Rattle.kt_script.specs.declared.command.Command.{Command}
use Rattle.kt_scenario.specs.Scene.{SceneModel, script_at, is_worker, is_shard, is_node, is_among}
use Rattle.kt_link.proofs.Shared.{among-true}

slice_get-some : {X : Type 0} (xs : List X) (k : ℕ) → is_some (slice_get xs k) ≡ true → k < length xs
slice_get-some [] k e = absurd cc
slice_get-some (x ∷ xs) zero e = omega arith
slice_get-some (x ∷ xs) (suc k) e = let h = slice_get-some xs k e in omega (arith, h)

pub script_at-some : (scripts : List (List Command)) (n : ℕ) → is_some (script_at scripts n) ≡ true → (1 ≤ n) × (n ≤ length scripts)
script_at-some scripts zero e = absurd cc
script_at-some scripts (suc n) e = let h = slice_get-some scripts n e in (omega arith, omega (arith, h))

slice_get-there : {X : Type 0} (xs : List X) (k : ℕ) → k < length xs → is_some (slice_get xs k) ≡ true
slice_get-there [] k lt = absurd (omega arith)
slice_get-there (x ∷ xs) zero lt = refl
slice_get-there (x ∷ xs) (suc k) lt = slice_get-there xs k (omega (arith, lt))

pub script_at-there : (scripts : List (List Command)) (n : ℕ) → 1 ≤ n → n ≤ length scripts → is_some (script_at scripts n) ≡ true
script_at-there scripts zero some few = absurd (omega (arith, some))
script_at-there scripts (suc n) some few = slice_get-there scripts n (omega (arith, few))

-- ---- a worker or a shard of the scene

pub data IsNode (scene : SceneModel) : NodeId → Type 0 where
  a_worker : {n : ℕ} → 1 ≤ n → n ≤ length scene.scripts → IsNode scene (ids.Worker n)
  a_shard : {n : ℕ} → 1 ≤ n → n ≤ scene.shards → IsNode scene (ids.Shard n)

pub of_node : (scene : SceneModel) (p : NodeId) → IsTrue (is_node scene p) → IsNode scene p
of_node scene (ids.Worker n) e = by (is_some (script_at scene.scripts n)) refl e
  where
    by : (b : Bool) → is_some (script_at scene.scripts n) ≡ b → (b || false) ≡ true → IsNode scene (ids.Worker n)
    by true is e = let h = script_at-some scene.scripts n is in a_worker h.0 h.1
    by false is e = absurd cc
of_node scene (ids.Shard n) e = by (is_among scene.shards n) refl e
  where
    by : (b : Bool) → is_among scene.shards n ≡ b → (false || b) ≡ true → IsNode scene (ids.Shard n)
    by true is e = let h = among-true scene.shards n is in a_shard h.0 h.1
    by false is e = absurd cc

pub worker-node : (scene : SceneModel) (p : NodeId) → IsTrue (is_worker scene p) → IsTrue (is_node scene p)
worker-node scene p e = or_left (is_worker scene p) (is_shard scene p) e

pub shard-node : (scene : SceneModel) (p : NodeId) → IsTrue (is_shard scene p) → IsTrue (is_node scene p)
shard-node scene p e = or_right (is_worker scene p) (is_shard scene p) e
