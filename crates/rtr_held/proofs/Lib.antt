-- Both are for readers and other crates: what each call's promise fixes, and what many feeds come to.
pub mod Times
pub mod Unique
