-- `Laws`, `Cost`, `Shorter` and `Unique` are for readers and other crates; `Steps` is the argument.
pub mod Laws
pub mod Cost
pub mod Shorter
pub mod Unique
mod Steps
