pub mod Before
pub mod Lists
pub mod Told
pub mod After
pub mod Asked
