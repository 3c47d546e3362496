mod HopTables
pub mod Loading
pub mod Listing
mod Putting
pub mod SmallStreams
pub mod Lengths
mod Writing
pub mod Below
mod Reloading
mod Accepted
mod Checking
mod Rising
mod Rewriting
mod LoadedLengths
mod Cutting
