pub mod Candidates
pub mod Bests
pub mod TwoHops
pub mod Seeks
