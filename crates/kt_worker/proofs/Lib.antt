pub mod Later
pub mod Requests
pub mod Fits
pub mod Shared
