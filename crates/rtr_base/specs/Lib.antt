-- What a contract of several floors speaks of: a store of several elements (Over).
pub mod Over
