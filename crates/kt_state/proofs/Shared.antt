-- What the crates above may cite of these proofs.
pub use Rattle.kt_state.proofs.Numbers.{mapped_from_one, mapped_none, one_more}
