pub mod ByLinks
pub mod Starts
