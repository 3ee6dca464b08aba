-- What the crates above may cite of these proofs.
pub use Rattle.kt_refinement.proofs.Lasting.{forced-reached}
pub use Rattle.kt_refinement.proofs.Leaving.{leaves-fitting}
pub use Rattle.kt_refinement.proofs.Whole.{headline-reached}
