pub mod Forms
pub mod Parts
pub mod Runs
pub mod Readings
pub mod Texts
pub mod Rooms
pub mod Blocks
pub mod Writings
