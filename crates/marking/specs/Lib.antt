pub mod Evaluated
pub mod Holding
pub mod Moves
pub mod Standing
pub mod Values
