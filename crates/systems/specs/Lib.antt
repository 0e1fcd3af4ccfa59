pub mod Words
pub mod Meaning
pub mod Bounded
pub mod Refinement
pub mod Refusals
pub mod Edits
pub mod Making
pub mod Entries
