pub mod Added
pub mod Saved
