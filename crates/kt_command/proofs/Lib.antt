pub mod Statuses
pub mod Carryings
pub mod Printings
pub mod Checkings
pub mod Completions
pub mod Quiet
