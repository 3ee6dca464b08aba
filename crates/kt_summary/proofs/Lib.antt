pub mod Lists
pub mod Marks
pub mod Noting
pub mod Making
pub mod Listed
