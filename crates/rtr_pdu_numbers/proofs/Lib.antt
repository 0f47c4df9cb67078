-- `Laws` and `Unique` are for readers and other crates; the others are the argument.
mod Founds
mod Pdus
pub mod Laws
pub mod Unique
