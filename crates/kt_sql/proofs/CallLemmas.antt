-- What the calls of a store write.
-- Cited by `SqlStoreCkptStore::begin_restart`.
use Rattle.std.proofs.Common.{◌≡◌, ℕ, ◌+◌, refl, map, fold, max}
use Rattle.kt_tuple.specs.declared.node.NodeId.{NodeId}
use Rattle.kt_store.specs.declared.rows.NodeRow.{NodeRow}
use Rattle.kt_store.specs.declared.rows.InstanceRow.{InstanceRow}
use Rattle.kt_store.specs.declared.rows.Purpose.TheVariants.{Rollback}
use Rattle.kt_store.specs.declared.rows.Verdict.TheVariants.{Open}
use Rattle.kt_store.specs.Content.{Content, row_of}
use Rattle.kt_store.specs.Changes.{storing, restart_begun}
use Rattle.kt_sql_tables.specs.Rows.{placing}

-- what a restart writes
pub restarts : (c one two : Content) (node : NodeId) (row new : NodeRow) (last : ℕ) → row ≡ row_of one node
    → new ≡ record row { incarnation = row.incarnation + 1 } → two ≡ one → one ≡ c → last ≡ fold max 0 (map (λ (p : InstanceRow). p.instance) c.board)
    → placing record { instance = last + 1; initiator = node; purpose = Rollback; verdict = Open } (storing new two) ≡ restart_begun node c
restarts c one two node row new last is next same before number = rw (next, is, same, before, number) refl
