pub mod Labels
pub mod Logs
pub mod Machine
pub mod Steps
pub mod Runs
pub mod Laws
pub mod Rows
