-- What people must believe of this crate: the walk, and what its laws say without it (Walk), and what it costs (Cost). Private serves the contracts
-- of private functions alone.
pub mod Walk
pub mod Cost
pub mod Private
