-- What the code alone keeps, and no public clause cites.
pub mod Row
pub mod Rising
pub mod Failing
