pub mod Tellings
pub mod Drawings
