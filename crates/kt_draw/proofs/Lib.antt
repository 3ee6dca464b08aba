pub mod Plain
pub mod Said
pub mod Apart
pub mod Behind
pub mod Drawn
