-- What the code alone keeps, and no public clause cites.
pub mod Left
pub mod Counting
pub mod Scope
