pub mod Deciding
pub mod Splitting
pub mod Cutting
pub mod Telling
pub mod Blaming
pub mod Covering
pub mod Arriving
