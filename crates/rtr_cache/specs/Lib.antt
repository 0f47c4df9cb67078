-- `Cache` is the page to believe of what is sent, `Serves` of what a receiver makes of it. `Private` is for contracts inside the crate.
pub mod Cache
pub mod Serves
pub mod Private
