-- What the code alone keeps, and no public clause cites.
pub mod StepPlans
pub mod Space
pub mod Traffic
pub mod Rows
pub mod Machine
pub mod Calls
pub mod Gathering
pub mod Kept
