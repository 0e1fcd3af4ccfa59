pub mod Grids
pub mod Frames
pub mod Drafts
pub mod Loads
-- lemmas by which the law of systems is met: nothing in them has to be believed
pub mod Laws
