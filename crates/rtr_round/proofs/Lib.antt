-- `Rfc`, `RfcSent`, `RfcBack`, `RoundTrip`, `Calls`, `KeyInV0`, `Payloads`, `Rule` and `Output` are for readers and other crates; the others are the argument.
pub mod RoundTrip
pub mod Calls
pub mod KeyInV0
pub mod Payloads
pub mod Rule
pub mod Output
mod Bytes
mod Fields
mod Inside
mod Accepted
mod Owned
mod Written
mod ReadBack
pub mod Rfc
pub mod RfcSent
pub mod RfcBack
mod Pictures
