pub mod Tightenings
pub mod Marks
