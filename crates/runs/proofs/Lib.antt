pub mod Turns
pub mod Edited
pub mod Openings
pub mod Showing
pub mod Making
pub mod Replaying
