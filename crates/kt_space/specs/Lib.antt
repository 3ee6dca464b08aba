pub mod Holding
pub mod Picking
pub mod auxiliary
