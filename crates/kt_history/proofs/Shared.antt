-- What the crates above may cite of these proofs.
pub use Rattle.kt_history.proofs.Lists.{Contains-cons_cases, Contains-from_list_any, Contains-from_slice_get, Contains-from_take, Contains-here, Contains-none}
pub use Rattle.kt_history.proofs.Lists.{Contains-there, list_any-from_Contains, slice_get-append_left, slice_get-from_Contains, slice_get-take}
pub use Rattle.kt_history.proofs.Lists.{slice_get-take_below}
pub use Rattle.kt_history.proofs.Logs.{log-empty, log-other_act, log-other_cut, log-own, log-own_act, log-own_cut, log-rises}
pub use Rattle.kt_history.proofs.Logs.{log-stack, note_at-new, note_at-old, note_at-push_cases, note_at-within, note_before, same_node-refl, same_node-true}
pub use Rattle.kt_history.proofs.Pasts.{CausesComeFirst-empty, CausesComeFirst-push, InPast-back}
pub use Rattle.kt_history.proofs.Survivors.{survives-closed, survives-decides}
pub use Rattle.kt_history.proofs.Fronts.{acts_at-append, acts_at-take, acts_in_log-other_act, acts_in_log-other_cut, acts_in_log-own_act}
pub use Rattle.kt_history.proofs.Fronts.{acts_in_log-own_cut, marked_front}
pub use Rattle.kt_history.proofs.Runs.{IsPermutation-uncons, RunsFrom-one, like_none}
pub use Rattle.kt_history.proofs.Sense.{CausesComeFirst-from_well_formed, IsWellFormed-empty, IsWellFormed-push, Stands-no_cut}
pub use Rattle.kt_history.proofs.Places.{place-old, place-stands}
