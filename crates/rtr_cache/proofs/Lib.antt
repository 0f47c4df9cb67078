-- For readers and other crates: `Calls` (what the calls answer and what they wrote), `Serves` (what a receiver makes of a run), `Asks` (who is ready for one), `Finishes` (a run
-- in a history), `Reading` (a run read back), `Lengths`, `Laws`, `NoPayload`, `Samples` and `Unique`. The others are the argument.
pub mod Laws
pub mod NoPayload
pub mod Reading
pub mod Asks
pub mod Serves
pub mod Finishes
pub mod Lengths
pub mod Calls
pub mod Samples
pub mod Unique
mod Sent
mod Owned
mod Parts
mod RunParts
mod Search
mod Sides
