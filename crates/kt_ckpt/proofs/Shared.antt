-- What the crates above may cite of these proofs.
pub use Rattle.kt_ckpt.proofs.Checkpoints.{read_again}
pub use Rattle.kt_ckpt.proofs.NotedLogs.{acts-long, front-noted, log-long, take-whole}
pub use Rattle.kt_ckpt.proofs.Gatherings.{fitting-none, fitting-some}
