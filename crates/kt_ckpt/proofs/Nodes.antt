-- A node is a field.
-- Cited by Checkpoints.
use Rattle.std.proofs.Common.{◌≡◌, ℕ, ◌<◌, ◌≤◌, false, cond, eqb, List, [], ◌∷◌, Result, refl, arith}
use Rattle.std.proofs.lemmas.Bool.{eqb-false}
use Rattle.kt_tuple.specs.declared.node.NodeId.{NodeId}
use Rattle.kt_tuple.specs.declared.node.NodeId.TheVariants.{Worker, Shard}
use Rattle.kt_ckpt.specs.declared.error.CkptError.{CkptError}
use Rattle.kt_ckpt.specs.declared.error.CkptError.TheVariants.{Field}
use Rattle.kt_ckpt.specs.Limits.{worker_code, shard_code}
use Rattle.kt_tuple.specs.declared.node.TheConstants.{MAX_WORKERS, MAX_SHARDS}
use Rattle.kt_ckpt.specs.Reading.{made, byte_within}
use Rattle.kt_ckpt.specs.Node.{IsNode, node_bytes, node_behind, node_at}
use Rattle.kt_ckpt.proofs.Field.{IsField, Lasts}
use Rattle.kt_ckpt.proofs.Combined.{fault, refused, refused_lasts, same_field, either_lasts, behind, behind_lasts, made_field, made_lasts}
use Rattle.kt_ckpt.proofs.Primitive.{byte_field, byte_lasts, byte_within_field, byte_within_lasts}
use Rattle.kt_ckpt.proofs.Ops.{coded}

abbrev node_code : NodeId → ℕ
node_code (Worker i) = worker_code
node_code (Shard i) = shard_code

abbrev index_bytes : NodeId → List ℕ
index_bytes (Worker i) = i ∷ []
index_bytes (Shard i) = i ∷ []

abbrev IsNodeBehind : ℕ → NodeId → Type 0
IsNodeBehind code n = IsNode n × (code ≡ node_code n)

worker_from : (n : NodeId) → IsNodeBehind worker_code n → (i : ℕ) × (((1 ≤ i) × (i ≤ MAX_WORKERS)) × (Worker i ≡ n))
worker_from (Worker i) h = (i, (h.0, refl))
worker_from (Shard i) h = absurd (omega (arith, h.1))

shard_from : (n : NodeId) → IsNodeBehind shard_code n → (i : ℕ) × (((1 ≤ i) × (i ≤ MAX_SHARDS)) × (Shard i ≡ n))
shard_from (Worker i) h = absurd (omega (arith, h.1))
shard_from (Shard i) h = (i, (h.0, refl))

no_node : (code : ℕ) (n : NodeId) → eqb code worker_code ≡ false → eqb code shard_code ≡ false → (IsNodeBehind code n → ⊥)
no_node code (Worker i) a b h = eqb-false code worker_code a h.1
no_node code (Shard i) a b h = eqb-false code shard_code b h.1

abbrev a_worker : List ℕ → Result (NodeId × List ℕ) CkptError
a_worker bytes = made Worker (byte_within 1 MAX_WORKERS bytes)

abbrev a_shard : List ℕ → Result (NodeId × List ℕ) CkptError
a_shard bytes = made Shard (byte_within 1 MAX_SHARDS bytes)

node_behind_field : (code : ℕ) → IsField index_bytes (IsNodeBehind code) (node_behind code)
node_behind_field code =
    let f = coded IsNodeBehind a_worker (λ bytes. cond (eqb code shard_code) (a_shard bytes) (fault Field bytes)) code worker_code
    (made_field (byte_within_field 1 MAX_WORKERS (omega arith)) Worker index_bytes (IsNodeBehind worker_code) (λ i h. refl) (λ i h. (h, refl)) worker_from)
    (λ a. coded IsNodeBehind a_shard (fault Field) code shard_code
    (made_field (byte_within_field 1 MAX_SHARDS (omega arith)) Shard index_bytes (IsNodeBehind shard_code) (λ i h. refl) (λ i h. (h, refl)) shard_from)
    (λ b. refused index_bytes (IsNodeBehind code) Field (λ n. no_node code n a b))) in
    record { again = f.again; takes = f.takes }

node_behind_lasts : (code : ℕ) → Lasts (node_behind code)
node_behind_lasts code =
    let l = either_lasts a_worker (λ bytes. cond (eqb code shard_code) (a_shard bytes) (fault Field bytes)) (eqb code worker_code)
    (made_lasts Worker (byte_within_lasts 1 MAX_WORKERS))
    (either_lasts a_shard (fault Field) (eqb code shard_code) (made_lasts Shard (byte_within_lasts 1 MAX_SHARDS)) (refused_lasts Field)) in
    record { goes_on = l.goes_on }

node_code_is_byte : (n : NodeId) → node_code n < 256
node_code_is_byte (Worker i) = omega arith
node_code_is_byte (Shard i) = omega arith

node_same : (n : NodeId) → node_code n ∷ index_bytes n ≡ node_bytes n
node_same (Worker i) = refl
node_same (Shard i) = refl

pub node_field : IsField node_bytes IsNode node_at
unfolding node_at
node_field =
    let f = same_field (behind byte_field node_code index_bytes IsNode node_behind (λ n h. node_code_is_byte n) (λ code lt. node_behind_field code))
    node_bytes IsNode (λ n h. h) (λ n h. h) (λ n h. node_same n) in
    record { again = f.again; takes = f.takes }

pub node_lasts : Lasts node_at
unfolding node_at
node_lasts = let l = behind_lasts node_behind byte_lasts node_behind_lasts in record { goes_on = l.goes_on }
