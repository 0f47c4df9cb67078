pub mod Laws
pub mod Unique
mod Tables
mod Places
