-- `Laws`, `Table`, `Decides`, `Passes` and `Unique` are for readers and other crates. `Begins`, `Steps`, `Sequences` and `Words` are lemmas on plain lists, for them and for the proofs.
mod Begins
mod Sequences
mod Steps
mod Words
pub mod Decides
pub mod Laws
pub mod Passes
pub mod Table
pub mod Unique
