pub mod Memory
pub mod Tally
pub mod Runs
pub mod Chaos
pub mod auxiliary
