-- What people must believe of this crate: the numbers of a session and of a table (Numbers), what is read back from numbers (Back), and of
-- which values it is the one that they are of (Ranges). Private is for contracts inside the crate.
pub mod Numbers
pub mod Back
pub mod Ranges
pub mod Private
