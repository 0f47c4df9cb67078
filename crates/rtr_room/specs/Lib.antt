pub mod Table
pub mod Room
