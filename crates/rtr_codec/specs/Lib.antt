-- What people must believe of this crate. Read first: Read (what reading is), with Layout (the pictures of the RFCs) and Reading (where
-- the crate departs from them). Stands says of the PDU, byte by byte, what is accepted; Refusals says of the bytes what is refused, Ignored which of them play no part. Private serves the contracts of private functions alone.
pub mod Read
pub mod Stands
pub mod Refusals
pub mod Ignored
pub mod Reading
pub mod Departures
pub mod Layout
pub mod Bytes
pub mod Answers
pub mod Run
pub mod Private
