pub mod Takes
pub mod Phases
