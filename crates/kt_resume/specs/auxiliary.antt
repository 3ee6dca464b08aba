-- What the code alone keeps, and no public clause cites.
pub mod Next
pub mod Kept
pub mod Found
pub mod Labels
pub mod Leading
pub mod Sense
pub mod Slots
pub mod Suits
