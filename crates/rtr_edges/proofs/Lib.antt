pub mod Edges
pub mod Calls
