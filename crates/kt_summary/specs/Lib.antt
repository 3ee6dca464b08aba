pub mod Waits
pub mod Strikes
pub mod Remade
pub mod auxiliary
