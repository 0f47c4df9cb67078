-- `Laws` is for readers; `Feeds` and `Prints` are what the functions' proofs cite.
pub mod Laws
mod Feeds
mod Prints
