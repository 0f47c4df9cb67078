-- `Laws` and `Unique` are for readers and other crates; the others are the argument.
pub mod Laws
pub mod Unique
mod Parts
mod Texts
mod Search
mod Sides
mod Files
