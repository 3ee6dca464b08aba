-- What the crates above may cite of these proofs.
pub use Rattle.kt_worker.proofs.Requests.{Requests-next, awaits-from, awaits-is, heard-after, opening-after}
pub use Rattle.kt_worker.proofs.Fits.{fits-after}
