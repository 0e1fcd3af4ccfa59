pub mod Entries
pub mod Tables
-- lemmas by which the law of systems is met: nothing in them has to be believed
pub mod Laws
