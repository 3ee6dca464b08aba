-- What the crates above may cite of these proofs.
pub use Rattle.kt_script.proofs.Reaches.{reaches}
pub use Rattle.kt_script.proofs.Pushed.{FollowOn-push, variables_of-push}
pub use Rattle.kt_script.proofs.InScript.{in_script-after, in_script-next}
pub use Rattle.kt_script.proofs.Held.{length-with_held}
pub use Rattle.kt_script.proofs.Limits.{keeps_limits}
