pub mod Scales
pub mod ScaleLaws
pub mod Best
pub mod Finds
pub mod Seeks
pub mod Walks
pub mod Rows
pub mod Incoming
