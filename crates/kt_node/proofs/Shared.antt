-- What the crates above may cite of these proofs.
pub use Rattle.kt_node.proofs.Acting.{can-stay, serves, this, waits, works}
