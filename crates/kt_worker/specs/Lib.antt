pub mod WorkerModel
pub mod After
pub mod Parts
