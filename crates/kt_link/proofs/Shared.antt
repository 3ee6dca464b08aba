-- What the crates above may cite of these proofs.
pub use Rattle.kt_link.proofs.Places.{among-is, among-true, neighbours-place, place-own, place-within}
pub use Rattle.kt_link.proofs.Others.{other_room}
