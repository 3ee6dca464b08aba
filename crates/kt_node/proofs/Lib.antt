pub mod Neighbours
pub mod Acting
pub mod Shared
