-- The nodes of a scene: their numbers are small, and neighbours are a worker and a shard.
-- Cited by CanApplies, Cutting, FitBodies, Gives, Good, GoodActs, GoodAsks, HeldActs, Leaves, NeverUnfit, Resuming,
--   Saves, StoredFronts; other crates.
use Rattle.std.proofs.Common.{◌≡◌, ℕ, zero, suc, ◌<◌, ◌≤◌, Bool, true, false, ◌&&◌, ◌||◌, List, [], ◌∷◌, length, refl, arith, mod-lt}
use Rattle.std.specs.Prelude.{is_some, slice_get, IsTrue}
use Rattle.std.proofs.lemmas.Bool.{or_left, or_right}
use Rattle.kt_tuple.specs.declared.node.NodeId.{NodeId}
use Rattle.kt_tuple.specs.declared.node.NodeId.TheVariants as ids
use Rattle.kt_tuple.specs.declared.op.Op.{Op}
use Rattle.kt_tuple.specs.Node.{node_index}
use Rattle.kt_tuple.specs.Signature.{kinds_of_op, signature_of}
use Rattle.kt_script.specs.declared.command.Command.{Command}
use Rattle.kt_link.specs.Network.{AreNeighbours as AreLinked}
use Rattle.kt_shard.specs.Limits.{sessions}
use Rattle.kt_state.specs.Node.{node_number, across}
use Rattle.kt_node.specs.Talking.{home}
use Rattle.kt_node.specs.Speaking.{HasPlace}
use Rattle.kt_ckpt.specs.declared.limits.TheConstants.{MAX_PEERS}
use Rattle.kt_model.specs.Limits.{rows}
use Rattle.kt_scenario.specs.Scene.{SceneModel, IsScene, script_at, is_worker, is_shard, is_node, is_among}
use Rattle.kt_model.specs.State.{role_of}
use Rattle.kt_model.specs.auxiliary.Ready.{AreNeighbours}
use Rattle.kt_link.proofs.Shared.{among-is, among-true}
use Rattle.kt_scenario.proofs.Shared.{IsNode, a_shard, a_worker, of_node, script_at-some, script_at-there, shard-node, worker-node}

-- a place in each table that has one for every node
small : (scene : SceneModel) → IsScene scene → (p : NodeId) → IsNode scene p → node_number p < sessions
small scene is p (a_worker low high) = omega (arith, high, is.few_workers)
small scene is p (a_shard low high) = omega (arith, high, is.few_shards)

row_small : (p : NodeId) → node_number p < sessions → node_index p < rows
row_small (ids.Worker n) h = omega (arith, h)
row_small (ids.Shard n) h = omega (arith, h)

pub node-row : (scene : SceneModel) → IsScene scene → (p : NodeId) → IsTrue (is_node scene p) → node_index p < rows
node-row scene is p e = row_small p (small scene is p (of_node scene p e))

-- ---- neighbours: a worker and a shard of the scene, in one order or the other

pub data Ends (scene : SceneModel) : NodeId → NodeId → Type 0 where
  to_shard : {w r : ℕ} → 1 ≤ w → w ≤ length scene.scripts → 1 ≤ r → r ≤ scene.shards → Ends scene (ids.Worker w) (ids.Shard r)
  to_worker : {r w : ℕ} → 1 ≤ w → w ≤ length scene.scripts → 1 ≤ r → r ≤ scene.shards → Ends scene (ids.Shard r) (ids.Worker w)

pub ends : (scene : SceneModel) (p q : NodeId) → AreNeighbours scene p q → Ends scene p q
ends scene (ids.Worker w) (ids.Shard r) e = by (is_worker scene (ids.Worker w)) (is_shard scene (ids.Shard r)) refl refl e
  where
    by : (a b : Bool) → is_worker scene (ids.Worker w) ≡ a → is_shard scene (ids.Shard r) ≡ b → (a && b || false && false) ≡ true
        → Ends scene (ids.Worker w) (ids.Shard r)
    by true true f g e = let h = script_at-some scene.scripts w f in let k = among-true scene.shards r g in to_shard h.0 h.1 k.0 k.1
    by true false f g e = absurd cc
    by false b f g e = absurd cc
ends scene (ids.Shard r) (ids.Worker w) e = by (is_shard scene (ids.Shard r)) (is_worker scene (ids.Worker w)) refl refl e
  where
    by : (a b : Bool) → is_shard scene (ids.Shard r) ≡ a → is_worker scene (ids.Worker w) ≡ b → (false && false || a && b) ≡ true
        → Ends scene (ids.Shard r) (ids.Worker w)
    by true true g f e = let h = script_at-some scene.scripts w f in let k = among-true scene.shards r g in to_worker h.0 h.1 k.0 k.1
    by true false f g e = absurd cc
    by false b f g e = absurd cc
ends scene (ids.Worker w) (ids.Worker v) e = by (is_worker scene (ids.Worker w)) e
  where
    by : (a : Bool) → (a && false || false && is_worker scene (ids.Worker v)) ≡ true → Ends scene (ids.Worker w) (ids.Worker v)
    by true e = absurd cc
    by false e = absurd cc
ends scene (ids.Shard r) (ids.Shard q) e = by (is_shard scene (ids.Shard r)) e
  where
    by : (a : Bool) → (false && is_shard scene (ids.Shard q) || a && false) ≡ true → Ends scene (ids.Shard r) (ids.Shard q)
    by true e = absurd cc
    by false e = absurd cc

-- and back
pub from_ends : (scene : SceneModel) (p q : NodeId) → Ends scene p q → AreNeighbours scene p q
from_ends scene p q (to_shard {w = w} {r = r} a b c d) =
    by (is_worker scene (ids.Worker w)) (is_shard scene (ids.Shard r)) (script_at-there scene.scripts w a b) (among-is scene.shards r c d)
  where
    by : (x y : Bool) → x ≡ true → y ≡ true → (x && y || false && false) ≡ true
    by true true e f = refl
    by true false e f = absurd cc
    by false y e f = absurd cc
from_ends scene p q (to_worker {r = r} {w = w} a b c d) =
    by (is_shard scene (ids.Shard r)) (is_worker scene (ids.Worker w)) (among-is scene.shards r c d) (script_at-there scene.scripts w a b)
  where
    by : (x y : Bool) → x ≡ true → y ≡ true → (false && false || x && y) ≡ true
    by true true e f = refl
    by true false e f = absurd cc
    by false y e f = absurd cc

turned : (scene : SceneModel) (p q : NodeId) → Ends scene p q → Ends scene q p
turned scene p q (to_shard a b c d) = to_worker a b c d
turned scene p q (to_worker a b c d) = to_shard a b c d

pub neighbours-turned : (scene : SceneModel) (p q : NodeId) → AreNeighbours scene p q → AreNeighbours scene q p
neighbours-turned scene p q e = from_ends scene q p (turned scene p q (ends scene p q e))

first : (scene : SceneModel) (p q : NodeId) → Ends scene p q → IsTrue (is_node scene p)
first scene p q (to_shard {w = w} {r = r} a b c d) = worker-node scene (ids.Worker w) (script_at-there scene.scripts w a b)
first scene p q (to_worker {r = r} {w = w} a b c d) = shard-node scene (ids.Shard r) (among-is scene.shards r c d)

pub neighbour-node : (scene : SceneModel) (p q : NodeId) → AreNeighbours scene p q → IsTrue (is_node scene q)
neighbour-node scene p q e = first scene q p (ends scene q p (neighbours-turned scene p q e))

-- a neighbour has a place in the tables of labels
pub neighbour-place : (scene : SceneModel) → IsScene scene → (p q : NodeId) → AreNeighbours scene p q → HasPlace q
neighbour-place scene is p q e = small scene is q (of_node scene q (neighbour-node scene p q e))

-- the home of an operation is a neighbour of each worker
pub home-neighbour : (scene : SceneModel) → IsScene scene → (p : NodeId) (op : Op) → IsTrue (is_worker scene p)
    → AreNeighbours scene p (home (role_of scene p).peers op)
home-neighbour scene is (ids.Shard n) op e = absurd cc
home-neighbour scene is (ids.Worker w) op e =
    let h = script_at-some scene.scripts w e in
    let small = mod-lt (signature_of (kinds_of_op op)) is.some_shards in
    from_ends scene (ids.Worker w) (home scene.shards op) (to_shard h.0 h.1 (omega arith) (omega (arith, small)))

-- a shard and a worker of the scene
pub worker-neighbour : (scene : SceneModel) (p w : NodeId) → IsTrue (is_shard scene p) → IsTrue (is_worker scene w)
    → AreNeighbours scene p (ids.Worker (node_number w))
worker-neighbour scene p (ids.Shard n) e f = absurd cc
worker-neighbour scene (ids.Worker n) (ids.Worker w) e f = absurd cc
worker-neighbour scene (ids.Shard r) (ids.Worker w) e f =
    let h = script_at-some scene.scripts w f in
    let k = among-true scene.shards r e in
    from_ends scene (ids.Shard r) (ids.Worker w) (to_worker h.0 h.1 k.0 k.1)

-- neighbours in the scene have a link
pub linked : (scene : SceneModel) (p q : NodeId) → AreNeighbours scene p q → AreLinked (length scene.scripts) scene.shards p q
linked scene p q e = by p q (ends scene p q e)
  where
    by : (p q : NodeId) → Ends scene p q → AreLinked (length scene.scripts) scene.shards p q
    by p q (to_shard a b c d) = ((a, b), (c, d))
    by p q (to_worker a b c d) = ((a, b), (c, d))

-- a shard has a session for each worker
pub worker-small : (scene : SceneModel) → IsScene scene → (p : NodeId) → IsTrue (is_worker scene p) → node_number p < sessions
worker-small scene is p e = small scene is p (of_node scene p (worker-node scene p e))

-- ---- who a node is

pub role-id : (scene : SceneModel) (p : NodeId) → (role_of scene p).id ≡ p
role-id scene (ids.Worker n) = refl
role-id scene (ids.Shard n) = refl

pub some_peers : (scene : SceneModel) → IsScene scene → (p : NodeId) → 1 ≤ (role_of scene p).peers
some_peers scene is (ids.Worker n) = is.some_shards
some_peers scene is (ids.Shard n) = is.some_workers

pub few_peers : (scene : SceneModel) → IsScene scene → (p : NodeId) → (role_of scene p).peers ≤ MAX_PEERS
few_peers scene is (ids.Worker n) = omega (arith, is.few_shards)
few_peers scene is (ids.Shard n) = is.few_workers

-- the node across with a number of the other kind
pub across-neighbour : (scene : SceneModel) (p : NodeId) (k : ℕ) → IsTrue (is_node scene p) → 1 ≤ k → k ≤ (role_of scene p).peers
    → AreNeighbours scene p (across p k)
across-neighbour scene p k e low high = from_ends scene p (across p k) (by p (of_node scene p e) high)
  where
    by : (q : NodeId) → IsNode scene q → k ≤ (role_of scene q).peers → Ends scene q (across q k)
    by q (a_worker a b) high = to_shard a b low high
    by q (a_shard a b) high = to_worker low high a b
