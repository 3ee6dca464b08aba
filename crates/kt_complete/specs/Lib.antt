pub mod Completion
pub mod auxiliary
