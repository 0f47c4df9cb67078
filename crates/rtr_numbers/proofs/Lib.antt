-- `Laws` and `Unique` are for readers and other crates; `Lists` and `Guesses` are what rtr_pdu_numbers shares; the others are the argument.
pub mod Lists
pub mod Guesses
mod Founds
mod Tables
mod Sessions
mod Values
mod Owned
pub mod Laws
pub mod Unique
