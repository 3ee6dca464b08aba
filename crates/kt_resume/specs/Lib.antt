pub mod Unplaced
pub mod Turns
pub mod Found
pub mod Remade
pub mod Suits
pub mod Judging
pub mod auxiliary
