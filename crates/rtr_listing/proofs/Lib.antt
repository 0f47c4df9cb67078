-- `Laws`, `Exactly`, `Printed`, `Samples` and `Unique` are for readers and other crates, `Numbers`, `Puts` and `Calls` for other crates; the others are the argument.
pub mod Laws
pub mod Exactly
pub mod Samples
pub mod Unique
pub mod Printed
pub mod Numbers
pub mod Puts
pub mod Calls
mod ReadBack
mod Digits
mod Lines
mod Shape
