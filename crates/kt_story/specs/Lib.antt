pub mod Story
pub mod Marks
pub mod Said
pub mod Blames
pub mod Messages
pub mod auxiliary
