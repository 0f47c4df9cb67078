-- `Laws`, `Shaped`, `Shape`, `Unique`, `Runs` (demand 3), `Receives` (the whole state), `Stops` (demand 1 on memory), `Updates`, `Coded`, `Whole` (the bytes of one PDU), `Onward` (going on from a run) and `Examples` are for readers and other crates, and with them `Kept`, of which they say something; the others are the argument.
mod Memory
pub mod Shape
mod Calls
mod Deeds
mod Pdus
mod Feeds
pub mod Kept
mod Good
mod Steps
mod Stepping
pub mod Laws
pub mod Shaped
pub mod Unique
mod Histories
pub mod Runs
pub mod Coded
pub mod Receives
pub mod Stops
pub mod Updates
pub mod Whole
mod Gathering
pub mod Onward
pub mod Examples
mod Turns
