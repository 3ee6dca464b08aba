pub mod Texts
pub mod Lines
pub mod Cells
pub mod auxiliary
