-- What the crates above may cite of these proofs.
pub use Rattle.kt_store.proofs.Tables.{IsOrder, placed_all, placed_rising}
pub use Rattle.kt_store.proofs.Board.{above_all, by_number_order, greatest_within, instance_row_last, still_board}
pub use Rattle.kt_store.proofs.OtherNodes.{others_stay_of, own_row, stored_is_read}
pub use Rattle.kt_store.proofs.OtherInstances.{begun_is_read, decided_is_read, nodes_stay, others_begun, others_decided}
pub use Rattle.kt_store.proofs.Nodes.{by_node_order}
pub use Rattle.kt_store.proofs.Tables.{placed}
pub use Rattle.kt_store.proofs.Counting.{Rises, counts_raised, counts_stay, faults_rise, wants_rise}
pub use Rattle.kt_store.proofs.Counting.{device_shows, faults_later, memory_shows, wants_later}
