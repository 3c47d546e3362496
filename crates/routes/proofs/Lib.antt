pub mod Firsts
pub mod HopLists
pub mod Judging
pub mod Loads
pub mod Verdicts
