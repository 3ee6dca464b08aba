pub mod Nodes
pub mod Shared
