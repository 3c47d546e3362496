pub mod Loads
pub mod Plans
pub mod Buffers
pub mod Writes
pub mod RoundTrips
pub mod Lines
pub mod Summaries
pub mod Verdicts
