pub mod Unique
pub mod Copies
pub mod Overs
pub mod Told
