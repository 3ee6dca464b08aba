-- What the crates above may cite of these proofs.
pub use Rattle.kt_model.proofs.Backs.{backed-in, comes-boards, settled-is}
pub use Rattle.kt_model.proofs.Boards.{next_free, open-verdict}
pub use Rattle.kt_model.proofs.CanApplies.{can_apply, stays_ready}
pub use Rattle.kt_model.proofs.CheckLeaves.{learnt}
pub use Rattle.kt_model.proofs.Cutting.{held_header}
pub use Rattle.kt_model.proofs.Enough.{enough}
pub use Rattle.kt_model.proofs.FailLeaves.{has_fallen}
pub use Rattle.kt_model.proofs.Fit.{log-others}
pub use Rattle.kt_model.proofs.Frames.{applied-other, applied-owner}
pub use Rattle.kt_model.proofs.Headlines.{bags_held}
pub use Rattle.kt_model.proofs.Heards.{HeardOf, accepts, answers_again, heard-is, hears, ignores_reply, ignores_request, misses_reply, misses_request}
pub use Rattle.kt_model.proofs.Holding.{Holds, IsMade, made-holds, opening-holds, step-made}
pub use Rattle.kt_model.proofs.Kept.{Kept, is-quiet, kept-holds, step_plan-kept, reached-kept, start-kept}
pub use Rattle.kt_model.proofs.Lasting.{made-noted, never-full, one_run-reached, reached-holds, undamaged-reached}
pub use Rattle.kt_model.proofs.Settling.{Follows, Learns, follows, found-bare}
pub use Rattle.kt_model.proofs.Lists.{all-filter, all-map, all-numbers, all-through}
pub use Rattle.kt_model.proofs.Loads.{load-passed}
pub use Rattle.kt_model.proofs.NeverUnfit.{never-unfit}
pub use Rattle.kt_model.proofs.NoteSound.{apart, log-long, note_at-next}
pub use Rattle.kt_model.proofs.OnLinks.{first-holds, sent-cases, sent_between, taken_off-was}
pub use Rattle.kt_model.proofs.Opened.{at-replicate, length-replicate, opening-node, opening-ready}
pub use Rattle.kt_model.proofs.Passed.{owner-passed, room-none}
pub use Rattle.kt_model.proofs.Lasting.{permanent-reached, stores-reached}
pub use Rattle.kt_model.proofs.Plans.{Comes, Fit, IsAlive, IsDown, IsDroppedBy, PlanOf, TentativeFits, Votes, holds, rolls}
pub use Rattle.kt_model.proofs.PlansFound.{plan-few, plan-found, plan-room}
pub use Rattle.kt_model.proofs.ResumedServices.{resumed_services}
pub use Rattle.kt_model.proofs.Saves.{can_act, can_save_node}
pub use Rattle.kt_model.proofs.Scene.{Ends, across-neighbour, ends, from_ends, home-neighbour, linked, neighbour-node}
pub use Rattle.kt_scenario.proofs.Shared.{IsNode, a_shard, a_worker}
pub use Rattle.kt_model.proofs.Scene.{neighbour-place, neighbours-turned, role-id, some_peers, to_shard, to_worker, worker-neighbour}
pub use Rattle.kt_scenario.proofs.Shared.{of_node, shard-node}
pub use Rattle.kt_scenario.proofs.Shared.{worker-node}
pub use Rattle.kt_model.proofs.Sound.{EndsAs, EndsDown, EndsRolling, MayNote}
pub use Rattle.kt_model.proofs.StepPlans.{step_plan-allowed}
pub use Rattle.kt_model.proofs.StepSound.{step_keeps}
pub use Rattle.kt_model.proofs.Writes.{other-rows, own-row, row_after}
pub use Rattle.kt_model.proofs.Resuming.{down-node, history-no_cut, history-well_formed, resumed-backed, resumed-fitting, resumed-ready, resumed-sound}
pub use Rattle.kt_model.proofs.Resuming.{all-settled, IsAllSettled}
pub use Rattle.kt_model.proofs.Settle.{permanent-settled, row-settled, settled-incarnation, settled, settled_content, settled_row}
pub use Rattle.kt_model.proofs.Fitting.{are-all}
pub use Rattle.kt_model.proofs.Sums.{before_one_way, not_before_itself}
