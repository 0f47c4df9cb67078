-- `Laws` and `Unique` are for readers and other crates; the others are the argument.
pub mod Laws
pub mod Unique
mod Order
mod Tables
mod Halving
mod Places
mod Rooms
mod Lists
mod Fronts
mod Merges
