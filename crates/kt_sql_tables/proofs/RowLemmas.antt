-- Rows in the tables, and back.
-- Cited by CarryLemmas, CellLemmas, HeldLemmas, OldLemmas, TableRows, `NodeRowRecord::read`.
use Rattle.std.proofs.Common.{◌≡◌, ◌+◌, ◌-◌, ltb, lt-ltb, false, cond, List, [], ◌∷◌, length, map, Option, None, Some, Ok, refl}
use Rattle.std.proofs.Common.{ap, ap₂, ◌∙◌, arith}
use Rattle.std.specs.List.{AllByRecursion}
use Rattle.sqlite.specs.Order.{Row}
use Rattle.kt_sql_tables.specs.declared.ids.TheConstants.{SHARD_IDS}
use Rattle.kt_tuple.specs.declared.node.NodeId.{NodeId}
use Rattle.kt_tuple.specs.declared.node.NodeId.TheVariants.{Worker, Shard}
use Rattle.kt_ckpt.specs.declared.ckpt.Ckpt.{Ckpt}
use Rattle.kt_ckpt.specs.Checkpoint.{IsCheckpoint, read}
use Rattle.kt_ckpt.proofs.Shared.{read_again}
use Rattle.kt_tuple.specs.Node.{is_before}
use Rattle.kt_store.specs.declared.rows.NodeRow.{NodeRow}
use Rattle.kt_store.specs.declared.rows.Tentative.{Tentative}
use Rattle.kt_store.specs.declared.rows.InstanceRow.{InstanceRow}
use Rattle.kt_store.specs.declared.rows.Purpose.{Purpose}
use Rattle.kt_store.specs.declared.rows.Purpose.TheVariants.{Check, Rollback}
use Rattle.kt_store.specs.declared.rows.Verdict.{Verdict}
use Rattle.kt_store.specs.declared.rows.Verdict.TheVariants.{Open, Yes, No}
use Rattle.kt_sql_tables.specs.Rows.{id_of, node_of, HasId, purpose_code, purpose_of, verdict_code, verdict_of, spelled, checkpoint_value, instance_value}
use Rattle.kt_sql_tables.specs.Rows.{checkpoint_in, number_in, tentative_of, node_in, node_given, instance_row_in, instance_row_given, IsSpelled, IsTaken}
use Rattle.kt_sql_tables.specs.Rows.{IsNodeRow, IsInstanceRow}
use Rattle.kt_sql_tables.specs.Rows.{when_ok, bytes_of}
use Rattle.kt_sql_tables.specs.auxiliary.Showing.{ShowsNode}

pub node_back : (n : NodeId) → HasId n → node_of (id_of n) ≡ n
node_back (Worker n) low = ap (λ b. cond b (Worker n) (Shard (n - SHARD_IDS))) (lt-ltb n SHARD_IDS low)
node_back (Shard n) low =
    let high : ltb (SHARD_IDS + n) SHARD_IDS ≡ false = grind arith in
    let back : SHARD_IDS + n - SHARD_IDS ≡ n = omega arith in
    ap (λ b. cond b (Worker (SHARD_IDS + n)) (Shard (SHARD_IDS + n - SHARD_IDS))) high ∙ ap Shard back

-- the order of the nodes is that of their numbers
pub by_id : (a b : NodeId) → HasId a → HasId b → is_before a b ≡ ltb (id_of a) (id_of b)
by_id (Worker m) (Worker n) h g = refl
by_id (Worker m) (Shard n) h g = grind (arith, h)
by_id (Shard m) (Worker n) h g = grind (arith, g)
by_id (Shard m) (Shard n) h g = grind arith

purpose_back : (p : Purpose) → purpose_of (purpose_code p) ≡ p
purpose_back Check = refl
purpose_back Rollback = refl

verdict_back : (v : Verdict) → verdict_of (verdict_code v) ≡ v
verdict_back Open = refl
verdict_back Yes = refl
verdict_back No = refl

-- the bytes of a checkpoint are read as it
pub bytes_back : (c : Ckpt) → IsCheckpoint c → read (bytes_of c) ≡ Ok c
unfolding bytes_of
bytes_back c h = read_again c h

checkpoint_back : (c : Option Ckpt) → IsSpelled c → checkpoint_in (spelled c) ≡ c
checkpoint_back None h = refl
checkpoint_back (Some c) h = ap when_ok (bytes_back c h)

tentative_back : (t : Option Tentative) → IsTaken t → tentative_of (checkpoint_in (checkpoint_value t)) (number_in (instance_value t)) ≡ t
tentative_back None h = refl
tentative_back (Some t) h = ap (λ r. tentative_of (when_ok r) t.instance) (bytes_back t.checkpoint h.0)

pub row_back : (r : NodeRow) → IsNodeRow r → node_in (node_given r) ≡ r
row_back r h = rw (node_back r.node h.node, checkpoint_back r.permanent h.permanent, tentative_back r.tentative h.tentative) refl

pub instance_row_back : (p : InstanceRow) → IsInstanceRow p → instance_row_in (instance_row_given p) ≡ p
instance_row_back p h = rw (node_back p.initiator h.initiator, purpose_back p.purpose, verdict_back p.verdict) refl

pub map_back : {X : Type 0} (P : X → Type 0) (out : X → Row) (back : Row → X) → ((x : X) → P x → back (out x) ≡ x) → (xs : List X) → AllByRecursion P xs
    → map back (map out xs) ≡ xs
map_back P out back same [] h = refl
map_back P out back same (x ∷ xs) h = ap₂ ◌∷◌ (same x h.0) (map_back P out back same xs h.1)

-- a row of five columns that shows a node is that of the node
pub shown_given : (row : Row) (r : NodeRow) → ShowsNode row r → length row ≡ 5 → row ≡ node_given r
shown_given [] r h five = absurd (omega (arith, five))
shown_given (a ∷ []) r h five = absurd (omega (arith, five))
shown_given (a ∷ b ∷ []) r h five = absurd (omega (arith, five))
shown_given (a ∷ b ∷ d ∷ []) r h five = absurd (omega (arith, five))
shown_given (a ∷ b ∷ d ∷ e ∷ []) r h five = absurd (omega (arith, five))
shown_given (a ∷ b ∷ d ∷ e ∷ f ∷ []) r h five = rw (h.id, h.incarnation, h.permanent, h.tentative, h.instance) refl
shown_given (a ∷ b ∷ d ∷ e ∷ f ∷ k ∷ more) r h five = absurd (omega (arith, five))
