-- What the code alone keeps, and no public clause cites.
pub mod Endings
pub mod Drawn
