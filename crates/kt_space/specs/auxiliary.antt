-- What the code alone keeps, and no public clause cites.
pub mod Chaining
pub mod Grouping
pub mod Hashing
pub mod Slots
