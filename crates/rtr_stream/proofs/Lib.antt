-- `Laws`, `Coded`, `Told`, `Unique` and `Calls` are for readers and other crates; the others are the argument.
pub mod Told
pub mod Laws
pub mod Coded
pub mod Unique
pub mod Calls
mod Judge
mod Runs
mod Turns
mod Holds
