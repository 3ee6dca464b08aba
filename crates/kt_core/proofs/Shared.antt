-- What the crates above may cite of these proofs.
pub use Rattle.kt_core.proofs.Shorts.{of_script}
