pub mod Said
pub mod Replayed
pub mod Made
pub mod Outcomes
