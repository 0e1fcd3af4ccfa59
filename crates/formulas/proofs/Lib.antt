pub mod Bytes
pub mod Spelled
pub mod Tables
pub mod Steps
pub mod Refused
pub mod Made
pub mod Wholes
pub mod Reading
