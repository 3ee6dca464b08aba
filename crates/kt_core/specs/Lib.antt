pub mod Store
pub mod Stepping
pub mod World
pub mod Resuming
pub mod Starting
pub mod Lent
pub mod auxiliary
