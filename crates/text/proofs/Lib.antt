pub mod Before
pub mod Cuts
pub mod Feeds
pub mod Numerals
pub mod Puts
