pub mod Strips
pub mod Acts
pub mod Rehearsals
pub mod Totals
