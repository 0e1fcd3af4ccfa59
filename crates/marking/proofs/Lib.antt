pub mod Entered
pub mod Filled
pub mod Letters
pub mod Binders
pub mod Iterated
