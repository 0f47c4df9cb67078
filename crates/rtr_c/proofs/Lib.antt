-- `Laws`, `Answers`, `PeerAnswers`, `DiffAnswers`, `RunAnswers`, `Served`, `Unique`, `Runs` (demand 3) and `Coded` are for readers; `Steps`, `Questions` and `Serving` are what the calls' proofs cite.
mod Steps
mod Questions
mod Serving
pub mod Laws
pub mod Answers
pub mod PeerAnswers
pub mod DiffAnswers
pub mod RunAnswers
pub mod Served
pub mod Unique
pub mod Runs
pub mod Coded
