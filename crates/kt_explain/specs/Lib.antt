pub mod Part
pub mod Near
pub mod Shown
