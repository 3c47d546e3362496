pub mod SameKind
pub mod WordCuts
pub mod Decimals
pub mod Names
pub mod LineMistakes
pub mod Dots
pub mod Pushes
pub mod Saying
