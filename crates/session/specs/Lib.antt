pub mod Texts
pub mod Failures
pub mod Measures
pub mod Heads
pub mod Entries
pub mod Hands
pub mod Sessions
