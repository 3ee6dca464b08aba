-- What the crates above may cite of these proofs.
pub use Rattle.kt_shard.proofs.Steps.{service-due, service-step}
pub use Rattle.kt_shard.proofs.Tables.{at-put_other, at-put_same, length-put, put-set}
