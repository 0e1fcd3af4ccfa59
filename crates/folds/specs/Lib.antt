pub mod Folds
pub mod Readings
pub mod Maps
pub mod Joins
-- lemmas by which the law of systems is met: nothing in them has to be believed
pub mod Kept
pub mod Abstracted
pub mod Quantified
pub mod Words
pub mod Mapped
