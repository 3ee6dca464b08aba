pub mod Numbers
pub mod Parsed
pub mod Statuses
pub mod Tables
