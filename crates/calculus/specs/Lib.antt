pub mod Formula
pub mod Pairs
pub mod Marks
pub mod Environments
