pub mod Onward
pub mod Stops
pub mod Answered
