-- What the crates above may cite of these proofs.
pub use Rattle.kt_scenario.proofs.Nodes.{IsNode, a_shard, a_worker, of_node, script_at-some, script_at-there, shard-node, worker-node}
