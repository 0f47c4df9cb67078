-- `Diffs` is the page to believe: the text, and what the call leaves. `Private` is for contracts inside the crate.
pub mod Diffs
pub mod Private
