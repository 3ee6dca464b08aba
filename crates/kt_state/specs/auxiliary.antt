-- What the code alone keeps, and no public clause cites.
pub mod Rooms
pub mod Bodies
pub mod Between
