-- What the crates above may cite of these proofs.
pub use Rattle.kt_sql_tables.proofs.HeldLemmas.{holds_content}
pub use Rattle.kt_sql_tables.proofs.ListedLemmas.{store_version}
pub use Rattle.kt_sql_tables.proofs.OpenedLemmas.{one_version}
pub use Rattle.kt_sql_tables.proofs.TabledLemmas.{carried_ready, carried_sure, made_fresh, never_ended, ready_sure}
