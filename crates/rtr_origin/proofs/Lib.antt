-- `Laws`, `Samples`, `Shaped`, `Numbers`, `Unique`, `Engines`, `PeerAnswers` and `PeerLaws` are for readers and other crates; the others are the argument. `Leading` and `Hosts` have the words that `Laws` speaks in,
-- and `Lists` those of `PeerLaws`.
pub mod Laws
pub mod Leading
pub mod Hosts
pub mod Samples
pub mod Shaped
pub mod Numbers
pub mod Unique
pub mod Engines
pub mod Lists
pub mod PeerAnswers
pub mod PeerLaws
mod Addresses
mod Walks
mod Bits
mod Judging
mod Tabled
mod Engine
mod Answers
mod Surveys
