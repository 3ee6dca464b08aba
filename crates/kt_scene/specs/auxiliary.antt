-- What the code alone keeps, and no public clause cites.
pub mod Texts
pub mod Making
pub mod Unbegun
