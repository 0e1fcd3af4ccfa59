pub mod Listed
pub mod Refined
pub mod Joined
