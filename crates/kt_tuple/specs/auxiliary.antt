-- What the code alone keeps, and no public clause cites.
pub mod Findings
pub mod Making
pub mod Digits
