-- What the code alone keeps, and no public clause cites.
pub mod Growth
pub mod Parts
pub mod Status
