-- What the crates above may cite of these proofs.
pub use Rattle.kt_space.proofs.Beside.{read_pushed}
pub use Rattle.kt_space.proofs.Picked.{without_none}
pub use Rattle.kt_space.proofs.Taken.{fewer, match_contained, match_permutes, nothing_matches, takes_out}
