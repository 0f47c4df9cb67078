-- What people must believe of this crate: the bytes of a PDU and what a call leaves (Encode), and document 01's numbers (Answers). Private serves the contracts of private functions alone.
pub mod Encode
pub mod Answers
pub mod Private
