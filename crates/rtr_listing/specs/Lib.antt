-- What people must believe of this crate: the bytes of a listing (Listing), what its digits stand for (Digits), and what a call says and leaves (Promises). Private is for
-- contracts inside the crate.
pub mod Listing
pub mod Digits
pub mod Promises
pub mod Private
