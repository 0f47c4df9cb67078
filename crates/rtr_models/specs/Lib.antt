-- What people must believe of this crate: the tables of numbers (Codes), what a PDU value says of itself (Values), and payloads by place
-- (Parts).
pub mod Codes
pub mod Values
pub mod Parts
