pub mod Steps
pub mod Tables
pub mod Written
pub mod Again
pub mod Shared
