pub mod Firsts
pub mod InMemory
pub mod Told
pub mod Behind
