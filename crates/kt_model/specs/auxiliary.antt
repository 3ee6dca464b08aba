-- What the code alone keeps, and no public clause cites.
pub mod Ready
pub mod Backed
pub mod Reading
