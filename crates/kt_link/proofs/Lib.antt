pub mod Places
pub mod Changed
pub mod Outcomes
pub mod Others
pub mod Shared
