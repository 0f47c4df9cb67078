-- What people must believe of this crate: well-formed UTF-8, and how far a text is so (Utf8); the same said by the rows alone (ByRows).
pub mod ByRows
pub mod Utf8
