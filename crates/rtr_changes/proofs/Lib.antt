-- `Laws`, `Unique` and `Samples` are for readers and other crates; the others are the argument. `Places` has the words that `Laws` speaks in of the search.
pub mod Laws
pub mod Places
pub mod Unique
pub mod Samples
mod Asking
mod Without
mod Applying
mod Counting
