pub mod Scene
pub mod Step
pub mod Faults
