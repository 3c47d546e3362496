pub mod Calls
pub mod Lending
pub mod Routings
pub mod Meanings
pub mod Making
pub mod Runs
