pub mod Upward
pub mod UpwardLaw
pub mod Ring
pub mod RingLaw
