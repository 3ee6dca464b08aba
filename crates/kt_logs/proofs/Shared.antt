-- What the crates above may cite of these proofs.
pub use Rattle.kt_logs.proofs.Rows.{map-set_changed, map-set_same, set_counted}
pub use Rattle.kt_logs.proofs.Lists.{all-append, all-at}
pub use Rattle.kt_logs.proofs.Homes.{is_home}
pub use Rattle.kt_logs.proofs.Numbered.{put_row_holds}
pub use Rattle.kt_logs.proofs.Causes.{before_at}
pub use Rattle.kt_logs.proofs.Survive.{closed_order, closed_run, marked_tuples, surviving_tuples, survivors_bags, survivors_order, survivors_run}
pub use Rattle.kt_logs.proofs.Growth.{AreLegal-act, AreLegal-cut, AreLegal-empty, MayMake, acts_in_log-empty, shard_of_acts-push, worker_of_acts-push}
pub use Rattle.kt_logs.proofs.Permutations.{step_like}
pub use Rattle.kt_logs.proofs.Traces.{Contains-acts_at, ServedIn, ShardLog-home, WasHeard, cause_found, keeps_served, waits_heard}
pub use Rattle.kt_logs.proofs.Shares.{flat_map-like, range_within, shares, shares-whole}
pub use Rattle.kt_logs.proofs.Hearings.{heard_here, no_act, not_heard}
pub use Rattle.kt_logs.proofs.NamedCauses.{cause_of_waiting-named}
