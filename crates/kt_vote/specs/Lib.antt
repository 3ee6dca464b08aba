pub mod Order
pub mod Poll
pub mod Counting
pub mod auxiliary
