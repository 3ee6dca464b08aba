pub mod Numbers
pub mod Tables
pub mod Sieving
pub mod Shared
