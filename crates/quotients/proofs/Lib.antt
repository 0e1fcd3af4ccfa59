pub mod Loads
pub mod Outcomes
