-- What the crates above may cite of these proofs.
pub use Rattle.kt_stage.proofs.Counts.{later-still, never-fewer}
