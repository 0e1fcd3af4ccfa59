pub mod Words
pub mod Selections
