pub mod Reads
pub mod Numbers
pub mod Sequences
pub mod Heads
pub mod Records
