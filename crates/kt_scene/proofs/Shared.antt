-- What the crates above may cite of these proofs.
pub use Rattle.kt_scene.proofs.Left.{told_ok, told_err}
pub use Rattle.kt_scene.proofs.JournalRead.{journal_is_scenario}
pub use Rattle.kt_scene.proofs.OneReport.{one_report}
