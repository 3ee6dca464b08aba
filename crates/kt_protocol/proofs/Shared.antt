-- What the crates above may cite of these proofs.
pub use Rattle.kt_protocol.proofs.Cases.{pull-else, pull-here, pull-other, push-else, push-here, some-none, up-gone}
pub use Rattle.kt_protocol.proofs.Consequences.{agree, remembered}
pub use Rattle.kt_protocol.proofs.Cuts.{rolling-none}
pub use Rattle.kt_protocol.proofs.Frames.{at-same}
pub use Rattle.kt_protocol.proofs.Invariant.{Caused, Invariant, a_key, a_vote, core, cut_soon, lost, made}
pub use Rattle.kt_protocol.proofs.Grounds.{HasGround, IsGrounded, OnGround, grounded-through, run-grounded, run-has}
pub use Rattle.kt_protocol.proofs.Labels.{Under-UpTo, Under-not, UpTo-Under, UpTo-eq, UpTo-refl, UpTo-trans, at-both, at-else, at-here}
pub use Rattle.kt_protocol.proofs.Logs.{Falls-tail, heard-attained, heard-else, heard-here, heard-sent, sent-else, sent-heard, sent-here, sent-tail}
pub use Rattle.kt_protocol.proofs.Logs.{sent-top, tail-in}
pub use Rattle.kt_protocol.proofs.Main.{holds_where_reached, reached-run, stays_through}
pub use Rattle.kt_protocol.proofs.Rows.{up_to-false}
pub use Rattle.kt_protocol.proofs.Streams.{up_to-true}
