-- `Laws`, `Exactly`, `Refused`, `Ignored`, `Rules`, `RunLaws`, `Unique` and `Samples` are for readers and other crates; the others are the argument.
pub mod Laws
pub mod RunLaws
pub mod Unique
pub mod Samples
pub mod Exactly
pub mod Refused
pub mod Ignored
pub mod Rules
mod Whole
mod Behind
mod Departs
mod Differ
mod Runs
mod Text
mod Plain
mod Early
