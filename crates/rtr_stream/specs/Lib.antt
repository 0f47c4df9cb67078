-- What people must believe of this crate: the stream, byte by byte (Stream), one search through a piece (Search), and a caller that searches
-- pieces one after another (Calls). Private serves the contracts of private functions alone.
pub mod Stream
pub mod Search
pub mod Calls
pub mod Private
