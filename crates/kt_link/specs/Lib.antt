pub mod Label
pub mod Network
pub mod auxiliary
