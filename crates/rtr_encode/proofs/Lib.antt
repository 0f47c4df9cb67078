-- `Laws`, `Departs`, `Unique`, `Samples` and `Refused` are for readers and other crates; the others are the argument.
pub mod Laws
pub mod Departs
pub mod Unique
pub mod Samples
pub mod Refused
mod Numbers
mod Blocks
mod Written
mod Payloads
mod Checks
