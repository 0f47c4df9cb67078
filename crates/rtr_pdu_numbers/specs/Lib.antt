-- What people must believe of this crate: the numbers of a PDU (Numbers), what is read back from numbers (Back), and of which values it is
-- the one that they are of (Ranges).
pub mod Numbers
pub mod Back
pub mod Ranges
