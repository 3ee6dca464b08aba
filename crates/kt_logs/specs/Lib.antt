pub mod Bag
pub mod ShardLog
pub mod WorkerLog
pub mod Order
pub mod Legal
pub mod Hearing
pub mod Cause
