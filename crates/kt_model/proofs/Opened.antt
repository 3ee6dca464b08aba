-- A world that was just opened is ready, and backed.
-- Cited by FirstCut, Holding, Kept, OpenedSound, Resuming; other crates.
use Rattle.std.proofs.Common.{Option, None, Some, if◌then◌else◌, ◌≡◌, ℕ, zero, suc, ◌+◌, ◌*◌, ◌<◌, ◌≤◌, Bool, true}
use Rattle.std.proofs.Common.{false, List, [], ◌∷◌, ◌++◌, length, replicate, Contains, ◌⊎◌, inl, inr, refl, sym, ap, ◌∙◌, subst, length-append, arith}
use Rattle.std.proofs.lemmas.Bool.{cases_lt}
use Rattle.std.proofs.lemmas.List.{get_or_past, get_or_append_left, get_or-append-add}
use Rattle.std.specs.Prelude.{is_some, IfSome}
use Rattle.kt_tuple.specs.declared.node.NodeId.{NodeId}
use Rattle.kt_tuple.specs.declared.node.NodeId.TheVariants as ids
use Rattle.kt_history.proofs.Shared.{Contains-none, CausesComeFirst-empty}
use Rattle.kt_shard.specs.Limits.{sessions}
use Rattle.kt_shard.specs.Table.{at}
use Rattle.kt_state.specs.declared.message.Message.{Message}
use Rattle.kt_state.specs.Node.{Node, opening_node, opening_body, node_number}
use Rattle.kt_model.specs.Limits.{rows}
use Rattle.kt_scenario.specs.Scene.{SceneModel, IsScene, is_node}
use Rattle.kt_model.specs.State.{node, role_of}
use Rattle.kt_model.specs.auxiliary.Ready.{IsNodeReady, IsReady}
use Rattle.kt_model.specs.Short.{AreShort}
use Rattle.kt_store.specs.Content.{empty_content, row_of}
use Rattle.kt_model.specs.auxiliary.Backed.{IsNodeBacked, IsBacked}
use Rattle.kt_model.specs.Reached.{opening_row, opening_rows, opening}
use Rattle.kt_scenario.proofs.Shared.{IsNode, a_worker, a_shard, of_node}
use Rattle.kt_model.proofs.Loads.{opening-body, fresh-ready}

-- ---- tables

-- a table of one value has it everywhere
pub at-replicate : {A : Type 0} (d : A) (n k : ℕ) → at d (replicate n d) k ≡ d
at-replicate d zero k = refl
at-replicate d (suc n) zero = refl
at-replicate d (suc n) (suc k) = at-replicate d n k

pub length-replicate : {A : Type 0} (n : ℕ) (x : A) → length (replicate n x) ≡ n
length-replicate zero x = refl
length-replicate (suc n) x = ap suc (length-replicate n x)

length-opening_rows : (scene : SceneModel) (n : ℕ) → length (opening_rows scene n) ≡ 2 * n
unfolding opening_rows
length-opening_rows scene zero = refl
length-opening_rows scene (suc n) =
    omega (arith, length-append (opening_rows scene n) (opening_row scene (ids.Worker n) ∷ opening_row scene (ids.Shard n) ∷ []), length-opening_rows scene n)

-- the rows of the worker and of the shard with the number k
pub worker_row : (scene : SceneModel) (n k : ℕ) → k < n → at None (opening_rows scene n) (2 * k) ≡ opening_row scene (ids.Worker k)
unfolding opening_rows
worker_row scene zero k below = absurd (omega (arith, below))
worker_row scene (suc n) k below = by (cases_lt k n) (λ less. worker_row scene n k less)
  where
    two : List (Option Node)
    two = opening_row scene (ids.Worker n) ∷ opening_row scene (ids.Shard n) ∷ []

    long : length (opening_rows scene n) ≡ 2 * n
    long = length-opening_rows scene n

    by : (k < n) ⊎ (n ≤ k) → (k < n → at None (opening_rows scene n) (2 * k) ≡ opening_row scene (ids.Worker k))
        → at None (opening_rows scene n ++ two) (2 * k) ≡ opening_row scene (ids.Worker k)
    by (inl less) before = get_or_append_left (opening_rows scene n) two None (2 * k) (omega (arith, less, long)) ∙ before less
    by (inr more) before =
        let same : n ≡ k = omega (arith, below, more) in
        let place : 2 * k ≡ length (opening_rows scene n) + 0 = omega (arith, long, same) in
        ap (at None (opening_rows scene n ++ two)) place ∙ get_or-append-add (opening_rows scene n) two 0 None
        ∙ ap (λ (j : ℕ). opening_row scene (ids.Worker j)) same

pub shard_row : (scene : SceneModel) (n k : ℕ) → k < n → at None (opening_rows scene n) (2 * k + 1) ≡ opening_row scene (ids.Shard k)
unfolding opening_rows
shard_row scene zero k below = absurd (omega (arith, below))
shard_row scene (suc n) k below = by (cases_lt k n) (λ less. shard_row scene n k less)
  where
    two : List (Option Node)
    two = opening_row scene (ids.Worker n) ∷ opening_row scene (ids.Shard n) ∷ []

    long : length (opening_rows scene n) ≡ 2 * n
    long = length-opening_rows scene n

    by : (k < n) ⊎ (n ≤ k) → (k < n → at None (opening_rows scene n) (2 * k + 1) ≡ opening_row scene (ids.Shard k))
        → at None (opening_rows scene n ++ two) (2 * k + 1) ≡ opening_row scene (ids.Shard k)
    by (inl less) before = get_or_append_left (opening_rows scene n) two None (2 * k + 1) (omega (arith, less, long)) ∙ before less
    by (inr more) before =
        let same : n ≡ k = omega (arith, below, more) in
        let place : 2 * k + 1 ≡ length (opening_rows scene n) + 1 = omega (arith, long, same) in
        ap (at None (opening_rows scene n ++ two)) place ∙ get_or-append-add (opening_rows scene n) two 1 None
        ∙ ap (λ (j : ℕ). opening_row scene (ids.Shard j)) same

-- rows past the table are empty
pub past_rows : (scene : SceneModel) (k : ℕ) → rows ≤ k → at None (opening_rows scene sessions) k ≡ None
past_rows scene k past = get_or_past (opening_rows scene sessions) k None (omega (arith, past, length-opening_rows scene sessions))

-- ---- nodes

none-past : (scene : SceneModel) → IsScene scene → (p : NodeId) → IsNode scene p → sessions ≤ node_number p → ⊥
none-past scene is p (a_worker low high) past = omega (arith, high, past, is.few_workers)
none-past scene is p (a_shard low high) past = omega (arith, high, past, is.few_shards)

-- a node past the tables is none of the scene's
pub past-none : (scene : SceneModel) → IsScene scene → (p : NodeId) → sessions ≤ node_number p → opening_row scene p ≡ None
past-none scene is p past = by (is_node scene p) refl
  where
    by : (b : Bool) → is_node scene p ≡ b → (if b then Some (opening_node (role_of scene p)) else None) ≡ None
    by true e = absurd (none-past scene is p (of_node scene p e) past)
    by false e = refl

-- the row of each node is the one of its name
pub opening-node : (scene : SceneModel) → IsScene scene → (p : NodeId) → node (opening scene) p ≡ opening_row scene p
opening-node scene is (ids.Worker w) = elim (cases_lt w sessions) [
  | inl below ↦ worker_row scene sessions w below
  | inr past ↦ past_rows scene (2 * w) (omega (arith, past)) ∙ sym (past-none scene is (ids.Worker w) past)
]
opening-node scene is (ids.Shard r) = elim (cases_lt r sessions) [
  | inl below ↦ shard_row scene sessions r below
  | inr past ↦ past_rows scene (2 * r + 1) (omega (arith, past)) ∙ sym (past-none scene is (ids.Shard r) past)
]

-- ---- the opening

-- nothing is on its way in a new world
pub no_messages : (n k : ℕ) (m : Message) → Contains (at [] (replicate n []) k) m → ⊥
no_messages n k m c = Contains-none m (subst (λ (l : List Message). Contains l m) (at-replicate {A = List Message} [] n k) c)

opening-there : (scene : SceneModel) (p : NodeId) → is_some (opening_row scene p) ≡ is_node scene p
opening-there scene p = by (is_node scene p)
  where
    by : (b : Bool) → is_some (if b then Some (opening_node (role_of scene p)) else None) ≡ b
    by true = refl
    by false = refl

opening-row-ready : (scene : SceneModel) → AreShort scene → (p : NodeId) → IfSome (opening_row scene p) (IsNodeReady scene [] 0 p)
opening-row-ready scene short p = by (is_node scene p)
  where
    by : (b : Bool) → IfSome (if b then Some (opening_node (role_of scene p)) else None) (IsNodeReady scene [] 0 p)
    by true = fresh-ready scene [] 0 p 1 (opening_body (role_of scene p) (role_of scene p).id) _ _ (opening-body scene short 0 p)
    by false = tt

pub opening-ready : (scene : SceneModel) → IsScene scene → AreShort scene → IsReady (opening scene)
opening-ready scene is short = record {
  scene = is;
  scripts = short;
  rows = length-opening_rows scene sessions;
  counts = length-replicate {A = ℕ} rows 0;
  there = λ p. ap (λ (row : Option Node). is_some row) (opening-node scene is p) ∙ opening-there scene p;
  nodes = λ p. subst (λ (row : Option Node). IfSome row (IsNodeReady scene [] 0 p)) (sym (opening-node scene is p)) (opening-row-ready scene short p);
  few_steps = omega arith;
  few_own = λ k. let h = at-replicate {A = ℕ} 0 rows k in omega (arith, h);
  few_notes = omega arith;
  few_made = λ new. omega arith;
  causes = CausesComeFirst-empty;
  messages = λ k m on. absurd (no_messages _ k m on);
}

-- ---- over a fresh store

opening-row-backed : (scene : SceneModel) (p : NodeId) → IfSome (opening_row scene p) (λ x. IsNodeBacked x (row_of empty_content p).tentative)
opening-row-backed scene p = by (is_node scene p)
  where
    by : (b : Bool) → IfSome (if b then Some (opening_node (role_of scene p)) else None) (λ x. IsNodeBacked x (row_of empty_content p).tentative)
    by true = refl
    by false = tt

pub opening-backed : (scene : SceneModel) → IsScene scene → IsBacked (opening scene)
opening-backed scene is = record {
  nodes = λ p. subst (λ (row : Option Node). IfSome row (λ x. IsNodeBacked x (row_of empty_content p).tentative)) (sym (opening-node scene is p))
      (opening-row-backed scene p);
  messages = λ k m on. absurd (no_messages _ k m on);
  board = λ i j d lt within. absurd (omega (arith, within));
  few_instances = λ new. omega arith;
  few_incarnations = λ new p. omega arith;
}
