-- What the code alone keeps, and no public clause cites.
pub mod Midway
pub mod Unanswered
pub mod Halting
pub mod Serving
pub mod Unbegun
