-- `Origin` is the page to believe; `Promises` what the calls for one route promise of it; `Numbers` a route's six numbers; `Peer` a list of routes. `Private`, `Judged` and `Survey` serve the contracts of private functions alone.
pub mod Origin
pub mod Promises
pub mod Numbers
pub mod Peer
pub mod Survey
pub mod Private
pub mod Judged
