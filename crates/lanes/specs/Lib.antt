pub mod Sizes
pub mod Rings
pub mod Queues
pub mod Calls
