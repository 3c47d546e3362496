pub mod Firsts
pub mod Routes
pub mod Loads
pub mod Checks
pub mod Acceptable
