-- What the code alone keeps, and no public clause cites.
pub mod Both
pub mod Changing
pub mod Text
pub mod Cells
pub mod Testing
pub mod Showing
pub mod Looking
pub mod Lasting
pub mod Carrying
pub mod OldRows
pub mod Ready
