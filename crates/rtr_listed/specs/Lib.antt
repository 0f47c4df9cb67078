-- What people must believe of this crate: how a listing is read (Listed), which values it can have (Fits), and what the call says and leaves (Promises). Private is for contracts inside the crate.
pub mod Listed
pub mod Fits
pub mod Promises
pub mod Private
