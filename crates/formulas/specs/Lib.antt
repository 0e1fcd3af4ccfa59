pub mod Texts
pub mod Nodes
pub mod Readings
pub mod Signs
pub mod Places
pub mod Sentences
pub mod Shapes
