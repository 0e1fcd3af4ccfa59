pub mod Firsts
pub mod Makings
