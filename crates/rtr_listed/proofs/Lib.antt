-- `Laws`, `Exactly`, `Unique` and `Calls` are for readers and other crates; the others are the argument.
pub mod Laws
pub mod Exactly
pub mod Unique
mod Texts
mod Lines
mod Values
mod Numbers
mod Addresses
mod Cursors
mod Found
mod Order
mod Heads
mod Records
mod Loop
mod Whole
pub mod Calls
mod Feeds
mod Written
mod Shown
mod ReadBack
mod Bytes
mod Cuts
mod Fronts
mod Enough
mod Printed
