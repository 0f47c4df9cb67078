-- What people must believe of this crate: the RFCs' pictures, to which reading and encoding are held (Rfc); when encoding gives back what was read, and
-- reading what was encoded (RoundTrip); what the two calls leave (Calls).
pub mod Rfc
pub mod RoundTrip
pub mod Calls
