pub mod Grammar
pub mod Numbers
pub mod Words
pub mod Examples
pub mod Status
pub mod Files
pub mod Holding
pub mod auxiliary
