pub mod Told
pub mod Drawing
pub mod auxiliary
