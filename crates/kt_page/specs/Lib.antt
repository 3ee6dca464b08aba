pub mod Head
pub mod auxiliary
