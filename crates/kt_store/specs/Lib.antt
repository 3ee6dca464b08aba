pub mod Verdict
pub mod Content
pub mod Changes
pub mod Proper
pub mod Calls
pub mod Stored
pub mod Others
pub mod auxiliary
