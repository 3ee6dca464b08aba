pub mod Changes
pub mod Watching
pub mod Pictured
