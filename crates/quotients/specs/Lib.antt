pub mod Phases
pub mod Forms
pub mod Maps
pub mod Steps
pub mod Progress
pub mod Outcomes
pub mod Quotients
